-- What is told of a level tells whether it is the first.
use Rattle.std.proofs.Common.{◌≡◌, ℕ, ◌-◌, ◌^◌, ◌==◌, min, Bool, false, Option, Some, None, option_map, refl, arith}
use Rattle.level_laws.specs.Labels.{as_told}

-- a level is the first
abbrev pub is_first : Option ℕ → Bool
is_first o = elim o as (λ _. Bool) [ Some depth ↦ depth == 1 | None ↦ false ]

one_capped : (depth : ℕ) → (min depth (2 ^ 32 - 1) == 1) ≡ (depth == 1)
one_capped depth = grind arith

pub first_told : (o : Option ℕ) → is_first (option_map as_told o) ≡ is_first o
first_told None = refl
first_told (Some depth) = one_capped depth
