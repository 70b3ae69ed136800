-- The first variable without a mark.
use Rattle.std.specs.Prelude.{ℕ, Bool, List, [], ◌∷◌, Option, Some, None, if◌then◌else◌}
use Rattle.rule_check.specs.Marking.{is_marked}

abbrev pub first_unmarked : List Bool → List ℕ → Option ℕ
first_unmarked marks [] = None
first_unmarked marks (v ∷ vs) = if is_marked marks v then first_unmarked marks vs else Some v
