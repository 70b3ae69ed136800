-- Sizes up to a bound, and depths against a limit.
use Rattle.std.proofs.Common.{◌≡◌, ℕ, ◌+◌, ◌||◌, min, max, List, [], ◌∷◌, refl, ap, arith}
use Rattle.std.proofs.Math.Dec.{ltb}
use Rattle.std.proofs.lemmas.Bool.Decides.{nat_tests}
use Rattle.soar_rule.specs.Checking.{told}
use Rattle.soar_rule.specs.Productions.{ValueOf, values_of}
use Rattle.soar_rule.specs.Sizes.{calls_in, calls_in_all, deepest_of}

pub told_sum : (a b : ℕ) → min (a + told b) 4294967295 ≡ told (a + b)
told_sum a b = omega arith

pub deeper_of_two : (limit a b : ℕ) → ltb limit (max a b) ≡ ltb limit a || ltb limit b
deeper_of_two limit a b = grind (arith, nat_tests)

pub deepest_is : (values : List ValueOf) → deepest_of values ≡ calls_in_all (values_of values)
deepest_is [] = refl
deepest_is (v ∷ values) = ap (max (calls_in v)) (deepest_is values)
