-- Copies with other atoms, put together from copies of parts.
use Rattle.std.proofs.Common.{◌≡◌, ℕ, ◌≤◌, List, [], ◌∷◌, length, map, take, refl, sym, ap, ◌∙◌}
use Rattle.std.proofs.lemmas.List.{take_all}
use Rattle.std.proofs.lemmas.Simd.{map-map}
use Rattle.soar_rule.specs.declared.action.Func.{Func}
use Rattle.soar_rule.specs.declared.action.Value.{Value}
use Rattle.soar_rule.specs.declared.action.Value.TheVariants.{Call}
use Rattle.soar_rule.specs.declared.cond.Atom.{Atom}
use Rattle.soar_rule.specs.declared.cond.Cond.{Cond}
use Rattle.soar_rule.specs.declared.cond.Cond.TheVariants.{Conj}
use Rattle.soar_rule.specs.Conditions.{condition, conditions, conjunctive, condition_and, all_of}
use Rattle.soar_rule.specs.Productions.{ValueOf, call_value, value_and, values_of, value_seen}
use Rattle.soar_rule.specs.Renaming.{condition_with, conditions_with, value_with, values_with}
use Rattle.soar_rule.proofs.SeenLemmas.{call_seen, conj_seen}

-- ---- conditions

all_with : (f : Atom → Atom) (cs : List Cond) → all_of (map (λ c. condition_with f (condition c)) cs) ≡ conditions_with f (conditions cs)
all_with f [] = refl
all_with f (c ∷ cs) = ap (condition_and (condition_with f (condition c))) (all_with f cs)

pub whole_with : (f : Atom → Atom) (out cs : List Cond) (i : ℕ) → length cs ≤ i → map condition out ≡ map (λ c. condition_with f (condition c)) (take i cs)
    → conditions out ≡ conditions_with f (conditions cs)
whole_with f out cs i end copied = ap all_of (copied ∙ ap (map (λ c. condition_with f (condition c))) (take_all i cs end)) ∙ all_with f cs

pub conj_with : (f : Atom → Atom) (copy inside : List Cond) (c : Cond) → c ≡ Conj inside → conditions copy ≡ conditions_with f (conditions inside)
    → condition (Conj copy) ≡ condition_with f (condition c)
conj_with f copy inside c is copied = conj_seen copy ∙ ap conjunctive copied ∙ sym (ap (condition_with f) (ap condition is ∙ conj_seen inside))

-- ---- values

values_in_list : (f : Atom → Atom) (vs : List ValueOf) → values_of (map (value_with f) vs) ≡ values_with f (values_of vs)
values_in_list f [] = refl
values_in_list f (v ∷ vs) = ap (value_and (value_with f v)) (values_in_list f vs)

pub call_with : (f : Atom → Atom) (func : Func) (copy vs : List Value) (v : Value) → v ≡ Call func vs → map value_seen copy ≡ map (value_with f) (map value_seen vs)
    → value_seen (Call func copy) ≡ value_with f (value_seen v)
call_with f func copy vs v is copied =
    call_seen func copy ∙ ap (λ xs. call_value func (values_of xs)) copied ∙ ap (call_value func) (values_in_list f (map value_seen vs))
    ∙ sym (ap (value_with f) (ap value_seen is ∙ call_seen func vs))

-- ---- lists

-- each item copied, as it is seen
pub each_with : {A B : Type 0} (seen : A → B) (g : B → B) (out xs : List A) (i : ℕ) → length xs ≤ i → map seen out ≡ map (λ x. g (seen x)) (take i xs)
    → map seen out ≡ map g (map seen xs)
each_with seen g out xs i end copied = copied ∙ ap (map (λ x. g (seen x))) (take_all i xs end) ∙ sym (map-map g seen xs)
