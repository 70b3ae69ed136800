-- The stages of settling by changes. No public clause cites this.
use Rattle.std.specs.Prelude.{◌≡◌, true, false, List, filter, is_some, option_map}
use Rattle.soar_sym.specs.declared.symbol.Sym.{Sym}
use Rattle.soar_sym.specs.declared.symbol.Triple.{Triple}
use Rattle.defs_soar.specs.declared.goal.Goal.{Goal}
use Rattle.defs_soar.specs.declared.preference.Preference.{Preference}
use Rattle.defs_soar.specs.Held.{held}
use Rattle.defs_soar.specs.Laws.{IsIn}
use Rattle.defs_soar.specs.Levels.{is_level_one, level}
use Rattle.defs_soar.specs.Settling.{Supports}
use Rattle.defs_soar.specs.Sorted.{has_symbol}
use Rattle.defs_soar.specs.Values.{has_triple_among}
use Rattle.level_laws.specs.Labels.{as_told}
use Rattle.kept_triples.specs.Kept.{HoldsTriples, KeptOf, OwnIs}

abbrev pub supports : List Preference → List Triple → Supports
supports rows inputs = record { rows = rows; inputs = inputs }

-- but for these symbols all have the level that they had, as levels are told
abbrev pub StayBut : List Sym → List Goal → List Triple → List Goal → List Triple → Type 0
StayBut moved goals0 triples0 goals triples = (s : Sym) → has_symbol moved s ≡ false → option_map as_told (level goals triples s) ≡ option_map as_told (level goals0 triples0 s)

-- an input of none of these identifiers is of the top level
abbrev pub AreTopBut : List Sym → List Goal → List Triple → List Triple → Type 0
AreTopBut ids goals triples inputs = (t : Triple) → has_triple_among inputs t ≡ true → has_symbol ids t.id ≡ false → is_level_one (level goals triples t.id) ≡ true

-- a row of none of these identifiers is of one that has a level
abbrev pub AreReachedBut : List Sym → List Goal → List Triple → List Preference → Type 0
AreReachedBut ids goals triples rows = (row : Preference) → IsIn row rows → has_symbol ids row.wish.id ≡ false → is_some (level goals triples row.wish.id) ≡ true

-- what is held is kept with its levels, and the rows that have no level are of these identifiers
pub record IsUpToDate (goals : List Goal) (rows : List Preference) (inputs : List Triple) (ids : List Sym) (k : KeptOf) : Type 0 where
  pub holds : HoldsTriples goals rows inputs k
  pub own : OwnIs goals k
  pub reached : AreReachedBut ids goals (held rows goals inputs) rows

-- the rows that are reached over what is held
abbrev pub reached_rows : List Goal → List Preference → List Triple → List Preference
reached_rows goals rows inputs = filter (λ row. is_some (level goals (held rows goals inputs) row.wish.id)) rows

-- and the inputs that are not of the top level are of these identifiers too
pub record IsTakenUp (goals : List Goal) (rows : List Preference) (inputs : List Triple) (ids : List Sym) (k : KeptOf) : Type 0 where
  pub state : IsUpToDate goals rows inputs ids k
  pub tops : AreTopBut ids goals (held rows goals inputs) inputs
