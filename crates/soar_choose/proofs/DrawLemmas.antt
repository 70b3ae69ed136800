-- Where a draw ends: within the candidates.
use Rattle.std.proofs.Common.{◌≡◌, ℕ, ◌+◌, ◌%◌, ◌<◌, ◌⊎◌, inl, inr, Bool, true, false, cond, List, [], ◌∷◌, length, suc, drop, get_or, ℤ, pos, negsuc, ◌+ℤ◌, ◌<ℤ◌, ◌≤ℤ◌, refl, sym, ◌∙◌, ap, subst, arith}
use Rattle.std.specs.Prelude.{int_lt}
use lib.IntN.{nat_abs}
use Rattle.std.proofs.lemmas.Int.{ints}
use Rattle.std.proofs.lemmas.List.{drop_more}
use Rattle.soar_sym.specs.declared.symbol.Sym.TheVariants.{Ident}
use Rattle.defs_soar.specs.declared.choice.Scored.{Scored}
use Rattle.defs_soar.specs.Draw.{total_of, first_above, greatest_from, first_with}
use Rattle.soar_choose.specs.Rows.{IsWithin, AreSumsWithin}

not_below : (a b : ℤ) → int_lt a b ≡ false → a <ℤ b → ⊥
not_below a b e h = grind (arith, ints)

not_above : (a b : ℤ) → b ≤ℤ a → int_lt a b ≡ false
not_above a b h = grind (arith, ints)

-- a number below the total is exceeded somewhere
pub first_above_within : (number : ℕ) (so_far : ℤ) (left : List Scored) → pos number <ℤ (so_far +ℤ total_of left) → (pos number <ℤ so_far → ⊥) → first_above number so_far left < length left
first_above_within number so_far [] below least = absurd (least (omega (arith, ints, below)))
first_above_within number so_far (s ∷ left) below least =
    by (int_lt (pos number) (so_far +ℤ s.sum)) refl (first_above_within number (so_far +ℤ s.sum) left (omega (arith, ints, below)))
  where
    by : (b : Bool) → int_lt (pos number) (so_far +ℤ s.sum) ≡ b
        → ((pos number <ℤ (so_far +ℤ s.sum) → ⊥) → first_above number (so_far +ℤ s.sum) left < length left)
        → cond b 0 (1 + first_above number (so_far +ℤ s.sum) left) < suc (length left)
    by true e rest = omega arith
    by false e rest = omega (arith, rest (not_below (pos number) (so_far +ℤ s.sum) e))

-- a number that is not above a sum, or that a later one reaches
found_before : (number : ℤ) (s : Scored) (left : List Scored) → (number ≤ℤ s.sum) ⊎ (first_with number left < length left) → first_with number (s ∷ left) < suc (length left)
found_before number s left (inl h) = rw (not_above s.sum number h) (omega arith)
found_before number s left (inr h) = by (int_lt s.sum number)
  where
    by : (b : Bool) → cond b (1 + first_with number left) 0 < suc (length left)
    by true = omega arith
    by false = omega arith

-- a sum that is at least the greatest of the others, or one of them is found
pub greatest_found : (z : ℤ) (left : List Scored) → (greatest_from z left ≤ℤ z) ⊎ (first_with (greatest_from z left) left < length left)
greatest_found z [] = inl (omega (arith, ints))
greatest_found z (s ∷ left) = by (int_lt z s.sum) (greatest_found s.sum left) (greatest_found z left)
  where
    by : (b : Bool) → (greatest_from s.sum left ≤ℤ s.sum) ⊎ (first_with (greatest_from s.sum left) left < length left)
        → (greatest_from z left ≤ℤ z) ⊎ (first_with (greatest_from z left) left < length left)
        → (greatest_from (cond b s.sum z) left ≤ℤ z) ⊎ (first_with (greatest_from (cond b s.sum z) left) (s ∷ left) < suc (length left))
    by true here there = inr (found_before (greatest_from s.sum left) s left here)
    by false here (inl h) = inl h
    by false here (inr h) = inr (found_before (greatest_from z left) s left (inr h))

pub greatest_within : (s : Scored) (left : List Scored) → first_with (greatest_from s.sum left) (s ∷ left) < suc (length left)
greatest_within s left = found_before (greatest_from s.sum left) s left (greatest_found s.sum left)

abbrev pub no_candidate : Scored
no_candidate = record { value = Ident 0 0; numeric = false; sum = pos 0 }

-- the candidate at a place, and those after it
pub sums_step : (left : List Scored) (i : ℕ) → i < length left → AreSumsWithin (drop i left) → IsWithin 1000000000000000 (get_or left i no_candidate).sum × AreSumsWithin (drop (i + 1) left)
sums_step left i h k = let P : List Scored → Type 0 = AreSumsWithin in subst P (drop_more left i no_candidate h) k

-- one candidate more that does not exceed the number
pub first_above_step : (number : ℕ) (so_far now : ℤ) (left : List Scored) (i : ℕ) → i < length left → now ≡ so_far +ℤ (get_or left i no_candidate).sum → int_lt (pos number) now ≡ false → (i + 1) + first_above number now (drop (i + 1) left) ≡ i + first_above number so_far (drop i left)
first_above_step number so_far now left i h e f =
    sym
    (ap (λ l. i + first_above number so_far l) (drop_more left i no_candidate h)
    ∙ ap (λ z. i + cond (int_lt (pos number) z) 0 (1 + first_above number z (drop (i + 1) left))) (sym e)
    ∙ ap (λ b. i + cond b 0 (1 + first_above number now (drop (i + 1) left))) f
    ∙ omega arith)

remainder_below : (a : ℕ) (z : ℤ) → int_lt (pos 0) z ≡ true → pos (a % nat_abs z) <ℤ z
remainder_below a (pos n) h = grind (arith, ints)
remainder_below a (negsuc n) h = cc

pub remainder_within : (a : ℕ) (z : ℤ) (left : List Scored) → z ≡ total_of left → int_lt (pos 0) z ≡ true → first_above (a % nat_abs z) (pos 0) left < length left
remainder_within a z left e h = let r : pos (a % nat_abs z) <ℤ z = remainder_below a z h in first_above_within (a % nat_abs z) (pos 0) left (omega (arith, ints)) (omega (arith, ints))
