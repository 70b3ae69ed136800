-- Doing a step again, as often as the subject allows.
use Rattle.std.specs.Prelude.{ℕ, zero, suc, Bool, true, false}

-- the step, so many times
abbrev pub repeated : {A : Type 0} → ℕ → (A → A) → A → A
repeated zero step a = a
repeated (suc n) step a = repeated n step (step a)

-- the step until it leaves something the same as it was, so many times at most
abbrev pub until_same : {A : Type 0} → (A → A → Bool) → ℕ → (A → A) → A → A
until_same same zero step a = a
until_same same (suc n) step a = let b = step a in elim (same a b) [ true ↦ a | false ↦ until_same same n step b ]

-- what a step leaves: the end, or a state from which it goes on
pub data Turn (A : Type 0) : Type 0 where
  ends : A → Turn A
  goes_on : A → Turn A

-- the step until it ends, so many times at most; `goes_on` is left where these were too few
abbrev pub turns : {A : Type 0} → ℕ → (A → Turn A) → A → Turn A
turns zero step a = goes_on a
turns (suc n) step a = elim (step a) [ ends b ↦ ends b | goes_on b ↦ turns n step b ]
