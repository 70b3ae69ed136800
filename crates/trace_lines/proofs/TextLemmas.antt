-- Indentation.
use Rattle.std.proofs.Common.{◌≡◌, ℕ, zero, suc, [], ◌∷◌, ◌++◌, refl, ap}
use Rattle.defs_soar.specs.Trace.{indent}

-- one goal more
pub indent_more : (n : ℕ) → indent n ++ (32 ∷ 32 ∷ []) ≡ indent (suc n)
indent_more zero = refl
indent_more (suc n) = ap (λ text. 32 ∷ 32 ∷ text) (indent_more n)
