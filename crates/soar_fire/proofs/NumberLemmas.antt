-- Whole numbers within 64 bits.
use Rattle.std.proofs.Common.{◌≡◌, ◌≢◌, add-one, Bool, true, false, cond, Option, Some, None, Ok, Err, refl, ap, sym, ◌∙◌, arith, ℤ, pos, neg_ℤ, ◌/◌, ◌==◌, FitsSigned, w64}
use Rattle.std.proofs.lemmas.Bool.Decides.{nat_tests}
use Rattle.std.specs.Option.{SomeIff}
use Rattle.std.specs.Int.{CanDivide, IsNonZero}
use Rattle.std.specs.Int.RustNames.{int_div}
use Rattle.defs_text.specs.Runs.{fits_integer}
use Rattle.defs_soar.specs.declared.firing.DropCause.TheVariants as cause
use Rattle.defs_soar.specs.Functions.{divided, fitting, quotient, size_of_integer}
use Rattle.soar_fire.specs.Steps.{or_overflow}

fits_true : (z : ℤ) → FitsSigned w64 z → fits_integer z ≡ true
fits_true (pos n) f = grind (arith, nat_tests)
fits_true (lib.IntN.negsuc n) f = grind (arith, nat_tests)

fits_false : (z : ℤ) → (FitsSigned w64 z → ⊥) → fits_integer z ≡ false
fits_false z f = by (fits_integer z) refl
  where
    fits : (w : ℤ) → fits_integer w ≡ true → FitsSigned w64 w
    fits (pos n) e = record { sfits = grind (arith, nat_tests) }
    fits (lib.IntN.negsuc n) e = record { sfits = grind (arith, nat_tests) }

    by : (b : Bool) → fits_integer z ≡ b → fits_integer z ≡ false
    by true e = absurd (f (fits z e))
    by false e = e

pub or_fitting : (o : Option ℤ) (z : ℤ) → SomeIff o (FitsSigned w64 z) z → or_overflow o ≡ fitting z
or_fitting (Some x) z h = ap Ok h.1 ∙ ap (λ b. cond b (Ok z) (Err cause.Overflow)) (sym (fits_true z h.0))
or_fitting None z h = ap (λ b. cond b (Ok z) (Err cause.Overflow)) (sym (fits_false z h))

quotient_is : (z y : ℤ) → quotient z y ≡ int_div z y
quotient_is (pos a) (pos b) = refl
quotient_is (pos a) (lib.IntN.negsuc b) = ap (λ n. neg_ℤ (pos (a / n))) (add-one b)
quotient_is (lib.IntN.negsuc a) (pos b) = ap (λ n. neg_ℤ (pos (n / b))) (add-one a)
quotient_is (lib.IntN.negsuc a) (lib.IntN.negsuc b) = rw (add-one a, add-one b) refl

divided_is : (z y : ℤ) → size_of_integer y ≢ 0 → divided quotient z y ≡ fitting (int_div z y)
divided_is z y some =
    let test : (size_of_integer y == 0) ≡ false = grind (arith, nat_tests) in
    ap (λ b. cond b (Err cause.ZeroDivisor) (fitting (quotient z y))) test ∙ ap fitting (quotient_is z y)

nonzero : (y : ℤ) → FitsSigned w64 y → size_of_integer y ≢ 0 → IsNonZero w64 y
nonzero (pos n) fits some = omega arith
nonzero (lib.IntN.negsuc n) fits some = omega arith

pub or_quotient : (o : Option ℤ) (z y : ℤ) → FitsSigned w64 y → SomeIff o (CanDivide w64 z y) (int_div z y) → size_of_integer y ≢ 0 → or_overflow o ≡ divided quotient z y
or_quotient (Some x) z y fits h some = or_fitting (Some x) (int_div z y) (h.0.1, h.1) ∙ sym (divided_is z y some)
or_quotient None z y fits h some = or_fitting None (int_div z y) (λ f. h (nonzero y fits some, f)) ∙ sym (divided_is z y some)
