-- Variables met one after another.
use Rattle.std.proofs.Common.{◌≡◌, ℕ, suc, ◌+◌, ◌<◌, length, get_or, drop, drop-cons, add-one, List, [], ◌∷◌, ◌++◌, map, flat_map, cond, refl, sym, ap, ◌∙◌}
use Rattle.std.proofs.lemmas.List.{append-nil}
use Rattle.soar_rule.specs.declared.action.Func.{Func}
use Rattle.soar_rule.specs.declared.action.Value.{Value}
use Rattle.soar_rule.specs.declared.action.Value.TheVariants.{Call}
use Rattle.soar_rule.specs.Productions.{ValueOf, values_of, value_seen}
use Rattle.soar_rule.specs.Variables.{is_among, variables_of_value, variables_of_values, with_each}
use Rattle.soar_rule.proofs.SeenLemmas.{call_seen}

pub each_of_both : (seen xs ys : List ℕ) → with_each seen (xs ++ ys) ≡ with_each (with_each seen xs) ys
each_of_both seen [] ys = refl
each_of_both seen (x ∷ xs) ys = each_of_both (cond (is_among seen x) seen (seen ++ x ∷ [])) xs ys

pub each_of_one : (seen xs : List ℕ) → with_each seen (xs ++ []) ≡ with_each seen xs
each_of_one seen xs = ap (with_each seen) (append-nil xs)

pub values_in_row : (vs : List ValueOf) → variables_of_values (values_of vs) ≡ flat_map variables_of_value vs
values_in_row [] = refl
values_in_row (v ∷ vs) = ap (λ xs. variables_of_value v ++ xs) (values_in_row vs)

-- one of several, and those after it
pub each_of_next : {A : Type 0} (f : A → List ℕ) (all : List A → List ℕ) → ((x : A) (xs : List A) → all (x ∷ xs) ≡ f x ++ all xs)
    → (seen met : List ℕ) (xs : List A) (i : ℕ) (x : A) → i < length xs → x ≡ get_or xs i x → met ≡ with_each seen (f x)
    → with_each met (all (drop (i + 1) xs)) ≡ with_each seen (all (drop i xs))
each_of_next f all step seen met xs i x within is now =
    let next : drop i xs ≡ x ∷ drop (i + 1) xs = drop-cons xs i x within ∙ ap (λ y. y ∷ drop (suc i) xs) (sym is) ∙ ap (λ n. x ∷ drop n xs) (sym (add-one i)) in
    ap (λ m. with_each m (all (drop (i + 1) xs))) now
    ∙ sym (ap (λ ys. with_each seen (all ys)) next ∙ ap (with_each seen) (step x (drop (i + 1) xs)) ∙ each_of_both seen (f x) (all (drop (i + 1) xs)))

pub variables_of_call : (f : Func) (vs : List Value) → flat_map variables_of_value (map value_seen vs) ≡ variables_of_value (value_seen (Call f vs))
variables_of_call f vs = sym (ap variables_of_value (call_seen f vs) ∙ values_in_row (map value_seen vs))
