-- The value of the candidate at a place.
use Rattle.std.proofs.Common.{◌≡◌, ℕ, zero, suc, List, [], ◌∷◌, Some, slice_get}
use Rattle.defs_soar.specs.declared.choice.Scored.{Scored}
use Rattle.defs_soar.specs.Verdicts.{value_at}

pub value_is : (left : List Scored) (place : ℕ) (s : Scored) → slice_get left place ≡ Some s → value_at left place ≡ Some s.value
value_is [] place s q = cc
value_is (t ∷ left) zero s q = cc
value_is (t ∷ left) (suc place) s q = value_is left place s q
