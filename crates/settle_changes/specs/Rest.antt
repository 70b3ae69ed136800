-- What is settled, and what changed since.
use Rattle.std.specs.Prelude.{◌≡◌, true, false, List, []}
use Rattle.soar_sym.specs.declared.symbol.Triple.{Triple}
use Rattle.defs_soar.specs.declared.goal.Goal.{Goal}
use Rattle.defs_soar.specs.declared.preference.Preference.{Preference}
use Rattle.defs_soar.specs.Settling.{Supports, kept_triples, settled}
use Rattle.defs_soar.specs.Values.{has_triple_among}
use Rattle.soar_prefs.specs.Memory.{PreferenceMemory, has_plain}
use Rattle.kept_triples.specs.Kept.{HoldsTriples, KeptOf, OwnIs}

abbrev pub settled_from : List Goal → List Preference → List Triple → Supports
settled_from goals rows inputs = settled goals (record { rows = rows; inputs = inputs })

-- all that is held is kept, and nothing goes any more
pub record IsAtRest (goals : List Goal) (rows : List Preference) (inputs : List Triple) (k : KeptOf) : Type 0 where
  pub holds : HoldsTriples goals rows inputs k
  pub own : OwnIs goals k
  pub settled : settled_from goals rows inputs ≡ record { rows = rows; inputs = inputs }

-- what is kept is that of a settled state; preference memory knows which rows came or went since, and the inputs that did stand in a list
pub record IsTracked (prefs : PreferenceMemory) (inputs : List Triple) (changed : List Triple) (k : KeptOf) : Type 0 where
  pub goals_then : List Goal
  pub inputs_then : List Triple
  pub rest : IsAtRest goals_then prefs.settled inputs_then k
  pub covers : (t : Triple) → has_plain changed t ≡ false → has_triple_among inputs t ≡ has_triple_among inputs_then t

-- the list has what it had, and names all triples, marks apart, that came to be kept or ceased to be
abbrev pub GrowsBy : List Triple → List Triple → KeptOf → KeptOf → Type 0
GrowsBy old new before after =
    ((t : Triple) → has_plain old t ≡ true → has_plain new t ≡ true)
    × ((t : Triple) → has_plain new t ≡ false → has_triple_among after.triples t ≡ has_triple_among before.triples t)

-- ---- laws

-- at rest the triples are those that are kept
abbrev pub RestIsKept : Type 0
RestIsKept =
    (goals : List Goal) (rows : List Preference) (inputs : List Triple) (k : KeptOf) → IsAtRest goals rows inputs k
    → (t : Triple) → has_triple_among k.triples t ≡ has_triple_among (kept_triples goals (record { rows = rows; inputs = inputs })) t

-- no goals, no rows and no inputs are at rest
abbrev pub NothingIsAtRest : Type 0
NothingIsAtRest = (k : KeptOf) → HoldsTriples [] [] [] k → OwnIs [] k → IsAtRest [] [] [] k

-- at rest nothing changed yet
abbrev pub RestIsTracked : Type 0
RestIsTracked =
    (goals : List Goal) (prefs : PreferenceMemory) (inputs : List Triple) (k : KeptOf) → prefs.settled ≡ prefs.rows → IsAtRest goals prefs.rows inputs k
    → IsTracked prefs inputs [] k

-- what is tracked stays so while rows change, and inputs that a longer list names
abbrev pub TrackingGoesOn : Type 0
TrackingGoesOn =
    (old new : PreferenceMemory) (inputs inputs′ changed changed′ : List Triple) (k : KeptOf) → IsTracked old inputs changed k → new.settled ≡ old.settled
    → ((t : Triple) → has_plain changed′ t ≡ false → has_plain changed t ≡ false)
    → ((t : Triple) → has_plain changed′ t ≡ false → has_triple_among inputs′ t ≡ has_triple_among inputs t)
    → IsTracked new inputs′ changed′ k
