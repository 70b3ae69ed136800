-- Conditions and actions have numbers below a bound where each variable of what they are seen as has.
use Rattle.std.proofs.Common.{◌≡◌, ℕ, nat_lt, Bool, true, ◌&&◌, List, [], ◌∷◌, ◌++◌, map, flat_map, refl, sym, ap, ap₂, subst, ◌∙◌}
use Rattle.std.specs.List.{list_all}
use Rattle.std.proofs.Math.Bool.{and-true}
use Rattle.std.proofs.lemmas.List.Folds.{list_all-append, flat_map-map}
use Rattle.soar_rule.specs.declared.cond.Atom.{Atom}
use Rattle.soar_rule.specs.declared.cond.Atom.TheVariants.{Const, Var}
use Rattle.soar_rule.specs.declared.cond.Test.{Test}
use Rattle.soar_rule.specs.declared.cond.Test.TheVariants.{Plain, Rel, OneOf}
use Rattle.soar_rule.specs.declared.cond.Field.{Field}
use Rattle.soar_rule.specs.declared.cond.Pattern.{Pattern}
use Rattle.soar_rule.specs.declared.cond.Cond.{Cond, map-Cond}
use Rattle.soar_rule.specs.declared.cond.Cond.TheFolds.{fold-roll-Cond, ind-Cond}
use Rattle.soar_rule.specs.declared.cond.Cond.TheOpen.{Cond-F, Pos, Neg, Conj}
use Rattle.soar_rule.specs.declared.action.Value.{Value, map-Value}
use Rattle.soar_rule.specs.declared.action.Value.TheFolds.{fold-roll-Value, ind-Value}
use Rattle.soar_rule.specs.declared.action.Value.TheOpen.{Value-F, Atom as Leaf, Call}
use Rattle.soar_rule.specs.declared.action.Pref.{Pref}
use Rattle.soar_rule.specs.declared.action.Pref.TheVariants as pref
use Rattle.soar_rule.specs.declared.action.Action.{Action}
use Rattle.soar_rule.specs.declared.action.Action.TheVariants.{Make, Write, Halt}
use Rattle.soar_rule.specs.Below.{atom_below, test_below, field_below, pattern_below, cond_step, cond_below, conds_below, value_step, value_below, pref_below, action_below, actions_below}
use Rattle.soar_rule.specs.Conditions.{Condition, condition, condition_step, conditions, all_of}
use Rattle.soar_rule.specs.Productions.{ValueOf, value_seen, value_step as seen_step, values_of, preference_seen, action_seen}
use Rattle.soar_rule.specs.Variables.{variables_of_atom, variables_of_test, variables_of_field, variables_of_pattern, variables_of_condition, variables_of_conditions, variables_of_value, variables_of_values, referent_value, of_referent, variables_of_action}

abbrev pub all_below : ℕ → List ℕ → Bool
all_below n = list_all (λ v. nat_lt v n)

all_of_both : (n : ℕ) (xs ys : List ℕ) (a b : Bool) → all_below n xs ≡ a → all_below n ys ≡ b → all_below n (xs ++ ys) ≡ (a && b)
all_of_both n xs ys a b p q = list_all-append (λ v. nat_lt v n) xs ys ∙ ap₂ (λ c d. c && d) p q

all_of_each : {A : Type 0} (n : ℕ) (f : A → List ℕ) (p : A → Bool) → ((x : A) → all_below n (f x) ≡ p x) → (xs : List A) → all_below n (flat_map f xs) ≡ list_all p xs
all_of_each n f p each [] = refl
all_of_each n f p each (x ∷ xs) = all_of_both n (f x) (flat_map f xs) (p x) (list_all p xs) (each x) (all_of_each n f p each xs)

atom_is_below : (n : ℕ) (a : Atom) → all_below n (variables_of_atom a) ≡ atom_below n a
atom_is_below n (Const s) = refl
atom_is_below n (Var v) = and-true (nat_lt v n)

-- ---- conditions

test_is_below : (n : ℕ) (t : Test) → all_below n (variables_of_test t) ≡ test_below n t
test_is_below n (Plain a) = all_of_both n (variables_of_atom a) [] (atom_below n a) true (atom_is_below n a) refl ∙ and-true (atom_below n a)
test_is_below n (Rel r a) = atom_is_below n a
test_is_below n (OneOf symbols) = refl

field_is_below : (n : ℕ) (field : Field) → all_below n (variables_of_field field) ≡ field_below n field
field_is_below n field = all_of_each n variables_of_test (test_below n) (test_is_below n) field.tests

pattern_is_below : (n : ℕ) (p : Pattern) → all_below n (variables_of_pattern p) ≡ pattern_below n p
pattern_is_below n p =
    all_of_both n (variables_of_field p.id) (variables_of_field p.attr ++ variables_of_field p.value) (field_below n p.id) (field_below n p.attr && field_below n p.value) (field_is_below n p.id)
    (all_of_both n (variables_of_field p.attr) (variables_of_field p.value) (field_below n p.attr) (field_below n p.value) (field_is_below n p.attr) (field_is_below n p.value))

abbrev IsCondBelow : ℕ → Cond → Type 0
IsCondBelow n c = all_below n (variables_of_condition (condition c)) ≡ cond_below n c

inside_below : (n : ℕ) (inside : List ((c : Cond) × IsCondBelow n c))
    → all_below n (variables_of_conditions (all_of (map condition (map (λ e. e.0) inside)))) ≡ list_all (λ b. b) (map (cond_below n) (map (λ e. e.0) inside))
inside_below n [] = refl
inside_below n (e ∷ inside) =
    all_of_both n (variables_of_condition (condition e.0)) (variables_of_conditions (all_of (map condition (map (λ d. d.0) inside)))) (cond_below n e.0) _ e.1 (inside_below n inside)

layer_below : (n : ℕ) (y : Cond-F ((c : Cond) × IsCondBelow n c))
    → all_below n (variables_of_condition (condition_step (map-Cond Cond Condition condition (map-Cond ((c : Cond) × IsCondBelow n c) Cond (λ e. e.0) y))))
    ≡ cond_step n (map-Cond Cond Bool (cond_below n) (map-Cond ((c : Cond) × IsCondBelow n c) Cond (λ e. e.0) y))
layer_below n (Pos p) = pattern_is_below n p
layer_below n (Neg p) = pattern_is_below n p
layer_below n (Conj inside) = inside_below n inside

cond_is_below : (n : ℕ) (c : Cond) → IsCondBelow n c
cond_is_below n = ind-Cond (IsCondBelow n) (λ x y is.
    let P : Cond-F Cond → Type 0 = λ z. all_below n (variables_of_condition (condition_step (map-Cond Cond Condition condition z))) ≡ cond_step n (map-Cond Cond Bool (cond_below n) z) in
    ap (λ c. all_below n (variables_of_condition c)) (fold-roll-Cond Condition condition_step x) ∙ subst P is (layer_below n y) ∙ sym (fold-roll-Cond Bool (cond_step n) x))

pub conds_are_below : (n : ℕ) (conds : List Cond) → all_below n (variables_of_conditions (conditions conds)) ≡ conds_below n conds
conds_are_below n [] = refl
conds_are_below n (c ∷ conds) =
    all_of_both n (variables_of_condition (condition c)) (variables_of_conditions (conditions conds)) (cond_below n c) (conds_below n conds)
    (cond_is_below n c) (conds_are_below n conds)

-- ---- actions

abbrev IsValueBelow : ℕ → Value → Type 0
IsValueBelow n v = all_below n (variables_of_value (value_seen v)) ≡ value_below n v

call_below : (n : ℕ) (vs : List ((v : Value) × IsValueBelow n v))
    → all_below n (variables_of_values (values_of (map value_seen (map (λ e. e.0) vs)))) ≡ list_all (λ b. b) (map (value_below n) (map (λ e. e.0) vs))
call_below n [] = refl
call_below n (e ∷ vs) = all_of_both n (variables_of_value (value_seen e.0)) (variables_of_values (values_of (map value_seen (map (λ d. d.0) vs)))) (value_below n e.0) _ e.1 (call_below n vs)

value_layer_below : (n : ℕ) (y : Value-F ((v : Value) × IsValueBelow n v))
    → all_below n (variables_of_value (seen_step (map-Value Value ValueOf value_seen (map-Value ((v : Value) × IsValueBelow n v) Value (λ e. e.0) y))))
    ≡ value_step n (map-Value Value Bool (value_below n) (map-Value ((v : Value) × IsValueBelow n v) Value (λ e. e.0) y))
value_layer_below n (Leaf a) = atom_is_below n a
value_layer_below n (Call f vs) = call_below n vs

value_is_below : (n : ℕ) (v : Value) → IsValueBelow n v
value_is_below n = ind-Value (IsValueBelow n) (λ x y is.
    let P : Value-F Value → Type 0 = λ z. all_below n (variables_of_value (seen_step (map-Value Value ValueOf value_seen z))) ≡ value_step n (map-Value Value Bool (value_below n) z) in
    ap (λ v. all_below n (variables_of_value v)) (fold-roll-Value ValueOf seen_step x) ∙ subst P is (value_layer_below n y) ∙ sym (fold-roll-Value Bool (value_step n) x))

pref_is_below : (n : ℕ) (p : Pref) → all_below n (of_referent variables_of_value (referent_value (preference_seen p))) ≡ pref_below n p
pref_is_below n pref.Accept = refl
pref_is_below n pref.Reject = refl
pref_is_below n pref.Require = refl
pref_is_below n pref.Prohibit = refl
pref_is_below n (pref.Better v) = value_is_below n v
pref_is_below n (pref.Worse v) = value_is_below n v
pref_is_below n pref.Best = refl
pref_is_below n pref.Worst = refl
pref_is_below n pref.Indifferent = refl
pref_is_below n (pref.IndifferentTo v) = value_is_below n v

action_is_below : (n : ℕ) (a : Action) → all_below n (variables_of_action (action_seen a)) ≡ action_below n a
action_is_below n (Make id attr value p) =
    all_of_both n (variables_of_atom id) _ (atom_below n id) _ (atom_is_below n id)
    (all_of_both n (variables_of_value (value_seen attr)) _ (value_below n attr) _ (value_is_below n attr)
    (all_of_both n (variables_of_value (value_seen value)) _ (value_below n value) (pref_below n p) (value_is_below n value) (pref_is_below n p)))
action_is_below n (Write vs) = ap (all_below n) (flat_map-map variables_of_value value_seen vs) ∙ all_of_each n (λ v. variables_of_value (value_seen v)) (value_below n) (value_is_below n) vs
action_is_below n Halt = refl

pub actions_are_below : (n : ℕ) (actions : List Action) → all_below n (flat_map variables_of_action (map action_seen actions)) ≡ actions_below n actions
actions_are_below n actions =
    ap (all_below n) (flat_map-map variables_of_action action_seen actions) ∙ all_of_each n (λ a. variables_of_action (action_seen a)) (action_below n) (action_is_below n) actions
