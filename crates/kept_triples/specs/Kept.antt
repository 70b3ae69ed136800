-- The triples that are held, as a set, with the levels over them.
use Rattle.std.specs.Prelude.{◌≡◌, ℕ, false, List, Option, option_map}
use Rattle.soar_sym.specs.declared.symbol.Sym.{Sym}
use Rattle.soar_sym.specs.declared.symbol.Triple.{Triple}
use Rattle.defs_soar.specs.declared.goal.Goal.{Goal}
use Rattle.defs_soar.specs.declared.preference.Preference.{Preference}
use Rattle.defs_soar.specs.Goals.{goal_ids}
use Rattle.defs_soar.specs.Held.{held}
use Rattle.defs_soar.specs.Levels.{level}
use Rattle.defs_soar.specs.Values.{has_triple_among}
use Rattle.settling_laws.specs.Changes.{own_triples, SameSupport}
use Rattle.level_change.specs.Labels.{as_told}
use Rattle.level_change.specs.Graph.{Graph, level_in_graph, Stands}
use Rattle.soar_settle.specs.Memory.{has_plain}

-- the triples, each once, the levels over them, and the goals' own elements and identifiers
pub record KeptOf : Type 0 where
  pub triples : List Triple
  pub graph : Graph
  pub own : List Triple
  pub ids : List Sym

-- the level that is told of an identifier
abbrev pub level_in_kept : KeptOf → Sym → Option ℕ
level_in_kept k s = level_in_graph k.graph s

-- the triples are those that the rows, goals and inputs hold up, and the graph stands over them
pub record HoldsTriples (goals : List Goal) (rows : List Preference) (inputs : List Triple) (k : KeptOf) : Type 0 where
  pub members : (t : Triple) → has_triple_among k.triples t ≡ has_triple_among (held rows goals inputs) t
  pub graph : Stands k.graph k.triples (goal_ids goals)

-- the own elements and the identifiers are those of these goals
pub record OwnIs (goals : List Goal) (k : KeptOf) : Type 0 where
  pub own : k.own ≡ own_triples goals
  pub ids : k.ids ≡ goal_ids goals

-- but for the triples that are named, marks apart, nothing that holds a triple up came or went
abbrev pub IsCovered : List Goal → List Preference → List Triple → List Goal → List Preference → List Triple → List Triple → Type 0
IsCovered goals0 rows0 inputs0 goals rows inputs changed =
    (t : Triple) → has_plain changed t ≡ false → SameSupport goals0 goals (record { rows = rows0; inputs = inputs0 }) (record { rows = rows; inputs = inputs }) t

-- the levels that are told are those over all that is held
abbrev pub KeptLevelsAreLevels : Type 0
KeptLevelsAreLevels =
    (goals : List Goal) (rows : List Preference) (inputs : List Triple) (k : KeptOf) → HoldsTriples goals rows inputs k
    → (s : Sym) → level_in_kept k s ≡ option_map as_told (level goals (held rows goals inputs) s)
