-- The end of a text.
use Rattle.std.proofs.Common.{◌≡◌, ℕ, suc, ◌-◌, ◌==◌, Bool, not, List, [], ◌∷◌, length, Some, ap, subst, arith}
use Rattle.std.specs.Prelude.{slice_get}
use Rattle.defs_soar.specs.Trace.{is_mid_after}

-- the last byte decides
pub mid_last : (mid : Bool) (bytes : List ℕ) (b : ℕ) → slice_get bytes (length bytes - 1) ≡ Some b → is_mid_after mid bytes ≡ not (b == 10)
mid_last mid [] b e = absurd (cc)
mid_last mid (x ∷ []) b e = let same : x ≡ b = cc in ap (λ y. not (y == 10)) same
mid_last mid (x ∷ y ∷ bytes) b e =
    let before : length (x ∷ y ∷ bytes) - 1 ≡ suc (length (y ∷ bytes) - 1) = omega arith in
    mid_last (not (x == 10)) (y ∷ bytes) b (subst (λ n. slice_get (x ∷ y ∷ bytes) n ≡ Some b) before e)
