-- Lists compared item by item.
use Rattle.std.proofs.Common.{◌≡◌, refl, ◌∙◌, sym, ap, ap₂, ℕ, Bool, true, false, ◌&&◌, ◌==◌, List, [], ◌∷◌, map, length, arith}
use Rattle.std.proofs.lemmas.Bool.Decides.{nat_tests}
use Rattle.soar_rule.specs.declared.action.Action.{Action}
use Rattle.soar_rule.specs.declared.action.Func.{Func}
use Rattle.soar_rule.specs.declared.action.Value.{Value}
use Rattle.soar_rule.specs.declared.action.Value.TheVariants.{Call}
use Rattle.soar_rule.specs.Equality.{action_eq, function_place, list_eq, value_eq, values_eq}
use Rattle.soar_rule.specs.Productions.{action_seen, value_seen, values_of}
use Rattle.soar_rule.proofs.SeenLemmas.{call_seen}
use Rattle.chunk_learn.specs.Seen.{seen_action_eq, seen_value_eq}

-- where the first list ends, the second is to end too
pub at_end : {A : Type 0} (same : A → A → Bool) (ys : List A) → list_eq same [] ys ≡ (length ys == 0)
at_end same [] = refl
at_end same (y ∷ ys) = grind (arith, nat_tests)

-- where the second list ends, the first is to end too
pub one_short : {A : Type 0} (same : A → A → Bool) (x : A) (xs ys : List A) → length ys ≡ 0 → list_eq same (x ∷ xs) ys ≡ false
one_short same x xs [] h = refl
one_short same x xs (y ∷ ys) h = absurd (omega (arith, h))

-- ---- by what items are seen as

mapped : {A B : Type 0} (f : A → B) (same : B → B → Bool) (xs ys : List A) → list_eq (λ a b. same (f a) (f b)) xs ys ≡ list_eq same (map f xs) (map f ys)
mapped f same [] [] = refl
mapped f same [] (y ∷ ys) = refl
mapped f same (x ∷ xs) [] = refl
mapped f same (x ∷ xs) (y ∷ ys) = ap (λ b. same (f x) (f y) && b) (mapped f same xs ys)

pub values_are : (xs ys : List Value) → list_eq seen_value_eq xs ys ≡ values_eq (values_of (map value_seen xs)) (values_of (map value_seen ys))
values_are [] [] = refl
values_are [] (y ∷ ys) = refl
values_are (x ∷ xs) [] = refl
values_are (x ∷ xs) (y ∷ ys) = ap (λ b. seen_value_eq x y && b) (values_are xs ys)

pub written_are : (xs ys : List Value) → list_eq seen_value_eq xs ys ≡ list_eq value_eq (map value_seen xs) (map value_seen ys)
written_are xs ys = mapped value_seen value_eq xs ys

pub actions_are : (xs ys : List Action) → list_eq seen_action_eq xs ys ≡ list_eq action_eq (map action_seen xs) (map action_seen ys)
actions_are xs ys = mapped action_seen action_eq xs ys

-- ---- calls

same_places : (m n : ℕ) → m ≡ n → (m == n) ≡ true
same_places m n h = grind (arith, nat_tests, h)

-- calls of one function are the same where their values are
pub calls_are : (f g : Func) (xs ys : List Value) (a b : Value) → a ≡ Call f xs → b ≡ Call g ys → function_place f ≡ function_place g → list_eq seen_value_eq xs ys ≡ value_eq (value_seen a) (value_seen b)
calls_are f g xs ys a b is_a is_b same =
    values_are xs ys
    ∙ (ap (λ t. t && values_eq (values_of (map value_seen xs)) (values_of (map value_seen ys))) (sym (same_places (function_place f) (function_place g) same))
    ∙ sym (ap₂ value_eq (ap value_seen is_a ∙ call_seen f xs) (ap value_seen is_b ∙ call_seen g ys)))
