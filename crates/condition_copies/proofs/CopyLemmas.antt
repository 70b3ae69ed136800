-- Conditions with each atom as it is are the same conditions.
use Rattle.std.proofs.Common.{◌≡◌, List, [], ◌∷◌, map, refl, ap, ap₂}
use Rattle.soar_rule.specs.declared.cond.Test.{Test}
use Rattle.soar_rule.specs.declared.cond.Test.TheVariants.{Plain, Rel, OneOf}
use Rattle.soar_rule.specs.declared.cond.Field.{Field}
use Rattle.soar_rule.specs.declared.cond.Pattern.{Pattern}
use Rattle.soar_rule.specs.Conditions.{Condition, positive, negated, conjunctive, Conditions, no_more, condition_and}
use Rattle.soar_rule.specs.Renaming.{test_with, field_with, pattern_with, condition_with, conditions_with}

same_test : (t : Test) → test_with (λ a. a) t ≡ t
same_test (Plain a) = refl
same_test (Rel r a) = refl
same_test (OneOf symbols) = refl

same_tests : (ts : List Test) → map (test_with (λ a. a)) ts ≡ ts
same_tests [] = refl
same_tests (t ∷ ts) = ap₂ (λ u us. u ∷ us) (same_test t) (same_tests ts)

same_field : (field : Field) → field_with (λ a. a) field ≡ field
same_field field = λ i. record { tests = same_tests field.tests i }

same_pattern : (p : Pattern) → pattern_with (λ a. a) p ≡ p
same_pattern p = λ i. record { state = p.state; id = same_field p.id i; attr = same_field p.attr i; value = same_field p.value i; accept = p.accept }

mutual
  pub same_condition : (c : Condition) → condition_with (λ a. a) c ≡ c
  same_condition (positive p) = ap positive (same_pattern p)
  same_condition (negated p) = ap negated (same_pattern p)
  same_condition (conjunctive inside) = ap conjunctive (same_conditions inside)

  same_conditions : (cs : Conditions) → conditions_with (λ a. a) cs ≡ cs
  same_conditions no_more = refl
  same_conditions (condition_and c cs) = ap₂ condition_and (same_condition c) (same_conditions cs)
