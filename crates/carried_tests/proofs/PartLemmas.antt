-- The tests of firings, part by part.
use Rattle.std.proofs.Common.{◌≡◌, refl, sym, ◌∙◌, ap, ℕ, ◌+◌, ◌<◌, zero, suc, Bool, true, false, cond, List, [], ◌∷◌, ◌++◌, length, drop, get_or, map, flat_map, filter, Option, Some, None, arith, add-one, append_assoc}
use Rattle.std.proofs.lemmas.List.{drop_more}
use Rattle.std.proofs.lemmas.Option.{get_or_from_slice_get, slice_get_within}
use Rattle.std.specs.List.{slice_get}
use Rattle.soar_rule.specs.declared.cond.Cond.{Cond}
use Rattle.soar_rule.specs.Conditions.{Condition, positive, negated, conjunctive, Conditions, no_more, condition_and, condition, conditions}
use Rattle.soar_wm.specs.declared.element.Element.{Element}
use Rattle.carried_tests.specs.declared.carrying.CarriedTest.{CarriedTest}
use Rattle.carried_tests.specs.Parts.{taken_by, tests_of_condition, tests_of_step}
use Rattle.carried_tests.specs.Seen.{carried_seen}
use Rattle.defs_match.specs.Testing.{Bindings}
use Rattle.defs_soar.specs.CarriedTests.{Carried, tests_of_conditions, tests_of_firing, tests_of_pattern}
use Rattle.defs_soar.specs.ChainIdentifiers.{firing_in}
use Rattle.defs_soar.specs.History.{StepOf, architecture_step, item_step, select_step, fire_step}

-- what a step of a loop adds stands before what is left
pub joined : {A : Type 0} (old xs ys rest new whole : List A) → new ≡ old ++ xs → rest ≡ xs ++ ys → old ++ rest ≡ whole → new ++ ys ≡ whole
joined old xs ys rest new whole added split before = ap (λ l. l ++ ys) added ∙ append_assoc old xs ys ∙ ap (λ l. old ++ l) (sym split) ∙ before

pub filter_seen : (p : Carried → Bool) (tests : List CarriedTest) → map carried_seen (filter (λ t. p (carried_seen t)) tests) ≡ filter p (map carried_seen tests)
filter_seen p [] = refl
filter_seen p (t ∷ tests) = by (p (carried_seen t)) (filter_seen p tests)
  where
    by : (b : Bool) → map carried_seen (filter (λ t. p (carried_seen t)) tests) ≡ filter p (map carried_seen tests)
        → map carried_seen (cond b (t ∷ filter (λ t. p (carried_seen t)) tests) (filter (λ t. p (carried_seen t)) tests)) ≡ cond b (carried_seen t ∷ filter p (map carried_seen tests)) (filter p (map carried_seen tests))
    by true later = ap (λ l. carried_seen t ∷ l) later
    by false later = later

pub tests_of_all : (steps : List StepOf) → flat_map tests_of_step steps ≡ flat_map tests_of_firing (flat_map firing_in steps)
tests_of_all [] = refl
tests_of_all (fire_step f ∷ steps) = ap (λ l. tests_of_firing f ++ l) (tests_of_all steps)
tests_of_all (architecture_step e ∷ steps) = tests_of_all steps
tests_of_all (item_step e tag ∷ steps) = tests_of_all steps
tests_of_all (select_step e tag ∷ steps) = tests_of_all steps

-- ---- conditions

no_elements : (b : Bindings) (cs : Conditions) → tests_of_conditions b cs [] ≡ []
no_elements b no_more = refl
no_elements b (condition_and (positive p) cs) = refl
no_elements b (condition_and (negated p) cs) = no_elements b cs
no_elements b (condition_and (conjunctive inside) cs) = no_elements b cs

past : {A : Type 0} (xs : List A) (i : ℕ) → slice_get xs i ≡ None → drop i xs ≡ []
past [] zero e = refl
past [] (suc i) e = refl
past (x ∷ xs) zero e = absurd (cc)
past (x ∷ xs) (suc i) e = past xs i e

past_more : {A : Type 0} (xs : List A) (i : ℕ) → slice_get xs i ≡ None → drop (i + 1) xs ≡ []
past_more xs i e = ap (λ n. drop n xs) (add-one i) ∙ past_next xs i e
  where
    past_next : {A : Type 0} (xs : List A) (i : ℕ) → slice_get xs i ≡ None → drop (suc i) xs ≡ []
    past_next [] i e = refl
    past_next (x ∷ xs) zero e = absurd (cc)
    past_next (x ∷ xs) (suc i) e = past_next xs i e

more_conditions : (b : Bindings) (d : Condition) (cs : Conditions) (elements : List Element) (at : ℕ) (o : Option Element) → slice_get elements at ≡ o → (n : ℕ) → n ≡ at + taken_by d
    → tests_of_conditions b (condition_and d cs) (drop at elements) ≡ tests_of_condition b d o ++ tests_of_conditions b cs (drop n elements)
more_conditions b (positive p) cs elements at (Some e) is n q =
    ap (tests_of_conditions b (condition_and (positive p) cs)) (drop_more elements at e (slice_get_within elements at e is))
    ∙ ap (λ f. tests_of_pattern b p f ++ tests_of_conditions b cs (drop (at + 1) elements)) (get_or_from_slice_get elements at e e is)
    ∙ ap (λ k. tests_of_pattern b p e ++ tests_of_conditions b cs (drop k elements)) (sym q)
more_conditions b (positive p) cs elements at None is n q =
    ap (tests_of_conditions b (condition_and (positive p) cs)) (past elements at is)
    ∙ sym (ap (λ k. tests_of_conditions b cs (drop k elements)) q ∙ ap (tests_of_conditions b cs) (past_more elements at is) ∙ no_elements b cs)
more_conditions b (negated p) cs elements at o is n q = let e : at ≡ n = omega arith in ap (λ k. tests_of_conditions b cs (drop k elements)) e
more_conditions b (conjunctive inside) cs elements at o is n q = let e : at ≡ n = omega arith in ap (λ k. tests_of_conditions b cs (drop k elements)) e

-- one condition taken, with the element that stands there
pub next_conditions : (b : Bindings) (conds : List Cond) (i : ℕ) (c : Cond) (elements : List Element) (at n : ℕ) (o : Option Element) → i < length conds → c ≡ get_or conds i c
    → slice_get elements at ≡ o → n ≡ at + taken_by (condition c)
    → tests_of_conditions b (conditions (drop i conds)) (drop at elements) ≡ tests_of_condition b (condition c) o ++ tests_of_conditions b (conditions (drop (i + 1) conds)) (drop n elements)
next_conditions b conds i c elements at n o within here is taken =
    ap (λ cs. tests_of_conditions b (conditions cs) (drop at elements)) (drop_more conds i c within)
    ∙ ap (λ d. tests_of_conditions b (condition_and (condition d) (conditions (drop (i + 1) conds))) (drop at elements)) (sym here)
    ∙ more_conditions b (condition c) (conditions (drop (i + 1) conds)) elements at o is n taken
