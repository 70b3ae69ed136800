-- The code's conditions and actions have numbers below the count of names where what they are seen as fits.
use Rattle.std.proofs.Common.{◌≡◌, ℕ, ◌&&◌, Bool, true, List, [], ◌∷◌, map, refl, sym, ap, subst, ◌∙◌}
use Rattle.std.specs.List.{list_all}
use Rattle.soar_rule.specs.declared.cond.Atom.{Atom}
use Rattle.soar_rule.specs.declared.cond.Atom.TheVariants.{Const, Var}
use Rattle.soar_rule.specs.declared.cond.Test.{Test}
use Rattle.soar_rule.specs.declared.cond.Test.TheVariants.{Plain, Rel, OneOf}
use Rattle.soar_rule.specs.declared.cond.Field.{Field}
use Rattle.soar_rule.specs.declared.cond.Pattern.{Pattern}
use Rattle.soar_rule.specs.declared.cond.Cond.{Cond, map-Cond}
use Rattle.soar_rule.specs.declared.cond.Cond.TheFolds.{fold-roll-Cond, ind-Cond}
use Rattle.soar_rule.specs.declared.cond.Cond.TheOpen.{Cond-F, Pos, Neg, Conj}
use Rattle.soar_rule.specs.declared.action.Value.{Value, map-Value}
use Rattle.soar_rule.specs.declared.action.Value.TheFolds.{fold-roll-Value, ind-Value}
use Rattle.soar_rule.specs.declared.action.Value.TheOpen.{Value-F, Atom as Leaf, Call}
use Rattle.soar_rule.specs.declared.action.Pref.{Pref}
use Rattle.soar_rule.specs.declared.action.Pref.TheVariants as pref
use Rattle.soar_rule.specs.declared.action.Action.{Action}
use Rattle.soar_rule.specs.declared.action.Action.TheVariants.{Make, Write, Halt}
use Rattle.soar_rule.specs.Below.{atom_below, test_below, field_below, pattern_below, cond_step, cond_below, conds_below, value_step, value_below, pref_below, action_below, actions_below}
use Rattle.soar_rule.specs.Conditions.{Condition, condition, condition_step, all_of}
use Rattle.soar_rule.specs.Productions.{ValueOf, value_seen, value_step as seen_step, values_of, preference_seen, action_seen}
use Rattle.soar_read.proofs.ActionFits.{acts_fit}
use Rattle.soar_read.proofs.ConditionFits.{conds_fit}
use Rattle.soar_read.proofs.FitLemmas.{atom_fits, test_fits, field_fits, pattern_fits, condition_fits, conditions_fit, value_fits, values_fit, preference_fits, action_fits}
use Rattle.read_parts.proofs.TextLemmas.{and-true, both-true}
use Rattle.read_parts.proofs.UseLemmas.{all_mapped}

-- ---- conditions

atom_is_below : (known n : ℕ) (a : Atom) → atom_fits known n a ≡ true → atom_below n a ≡ true
atom_is_below known n (Const s) fits = refl
atom_is_below known n (Var v) fits = fits

test_is_below : (known n : ℕ) (t : Test) → test_fits known n t ≡ true → test_below n t ≡ true
test_is_below known n (Plain a) fits = atom_is_below known n a fits
test_is_below known n (Rel r a) fits = atom_is_below known n a fits
test_is_below known n (OneOf symbols) fits = refl

field_is_below : (known n : ℕ) (field : Field) → field_fits known n field ≡ true → field_below n field ≡ true
field_is_below known n field fits = all_mapped (test_fits known n) (test_below n) (test_is_below known n) field.tests fits

pattern_is_below : (known n : ℕ) (p : Pattern) → pattern_fits known n p ≡ true → pattern_below n p ≡ true
pattern_is_below known n p fits =
    let one : (field_fits known n p.id ≡ true) × ((field_fits known n p.attr && field_fits known n p.value) ≡ true) = and-true fits in
    let two : (field_fits known n p.attr ≡ true) × (field_fits known n p.value ≡ true) = and-true one.1 in
    both-true (field_is_below known n p.id one.0) (both-true (field_is_below known n p.attr two.0) (field_is_below known n p.value two.1))

abbrev IsCondBelow : ℕ → ℕ → Cond → Type 0
IsCondBelow known n c = condition_fits known n (condition c) ≡ true → cond_below n c ≡ true

inside_below : (known n : ℕ) (inside : List ((c : Cond) × IsCondBelow known n c)) → conditions_fit known n (all_of (map condition (map (λ e. e.0) inside))) ≡ true
    → list_all (λ b. b) (map (cond_below n) (map (λ e. e.0) inside)) ≡ true
inside_below known n [] fit = refl
inside_below known n (e ∷ inside) fit =
    let both : (condition_fits known n (condition e.0) ≡ true) × (conditions_fit known n (all_of (map condition (map (λ d. d.0) inside))) ≡ true) = and-true fit in
    both-true (e.1 both.0) (inside_below known n inside both.1)

layer_below : (known n : ℕ) (y : Cond-F ((c : Cond) × IsCondBelow known n c))
    → condition_fits known n (condition_step (map-Cond Cond Condition condition (map-Cond ((c : Cond) × IsCondBelow known n c) Cond (λ e. e.0) y))) ≡ true
    → cond_step n (map-Cond Cond Bool (cond_below n) (map-Cond ((c : Cond) × IsCondBelow known n c) Cond (λ e. e.0) y)) ≡ true
layer_below known n (Pos p) fits = pattern_is_below known n p fits
layer_below known n (Neg p) fits = pattern_is_below known n p fits
layer_below known n (Conj inside) fits = inside_below known n inside fits

cond_is_below : (known n : ℕ) (c : Cond) → IsCondBelow known n c
cond_is_below known n = ind-Cond (IsCondBelow known n) (λ x y is fits.
    let P : Cond-F Cond → Type 0 = λ z. condition_fits known n (condition_step (map-Cond Cond Condition condition z)) ≡ true → cond_step n (map-Cond Cond Bool (cond_below n) z) ≡ true in
    fold-roll-Cond Bool (cond_step n) x ∙ subst P is (layer_below known n y) (sym (ap (condition_fits known n) (fold-roll-Cond Condition condition_step x)) ∙ fits))

pub conds_are_below : (known n : ℕ) (conds : List Cond) → conds_fit known n (map condition conds) ≡ true → conds_below n conds ≡ true
conds_are_below known n [] fit = refl
conds_are_below known n (c ∷ conds) fit =
    let both : (condition_fits known n (condition c) ≡ true) × (conds_fit known n (map condition conds) ≡ true) = and-true fit in
    both-true (cond_is_below known n c both.0) (conds_are_below known n conds both.1)

-- ---- actions

abbrev IsValueBelow : ℕ → ℕ → Value → Type 0
IsValueBelow known n v = value_fits known n (value_seen v) ≡ true → value_below n v ≡ true

call_below : (known n : ℕ) (vs : List ((v : Value) × IsValueBelow known n v)) → values_fit known n (values_of (map value_seen (map (λ e. e.0) vs))) ≡ true
    → list_all (λ b. b) (map (value_below n) (map (λ e. e.0) vs)) ≡ true
call_below known n [] fit = refl
call_below known n (e ∷ vs) fit =
    let both : (value_fits known n (value_seen e.0) ≡ true) × (values_fit known n (values_of (map value_seen (map (λ d. d.0) vs))) ≡ true) = and-true fit in
    both-true (e.1 both.0) (call_below known n vs both.1)

value_layer_below : (known n : ℕ) (y : Value-F ((v : Value) × IsValueBelow known n v))
    → value_fits known n (seen_step (map-Value Value ValueOf value_seen (map-Value ((v : Value) × IsValueBelow known n v) Value (λ e. e.0) y))) ≡ true
    → value_step n (map-Value Value Bool (value_below n) (map-Value ((v : Value) × IsValueBelow known n v) Value (λ e. e.0) y)) ≡ true
value_layer_below known n (Leaf a) fits = atom_is_below known n a fits
value_layer_below known n (Call f vs) fits = call_below known n vs fits

value_is_below : (known n : ℕ) (v : Value) → IsValueBelow known n v
value_is_below known n = ind-Value (IsValueBelow known n) (λ x y is fits.
    let P : Value-F Value → Type 0 = λ z. value_fits known n (seen_step (map-Value Value ValueOf value_seen z)) ≡ true → value_step n (map-Value Value Bool (value_below n) z) ≡ true in
    fold-roll-Value Bool (value_step n) x ∙ subst P is (value_layer_below known n y) (sym (ap (value_fits known n) (fold-roll-Value ValueOf seen_step x)) ∙ fits))

values_are_below : (known n : ℕ) (vs : List Value) → list_all (value_fits known n) (map value_seen vs) ≡ true → list_all (value_below n) vs ≡ true
values_are_below known n [] fit = refl
values_are_below known n (v ∷ vs) fit =
    let both : (value_fits known n (value_seen v) ≡ true) × (list_all (value_fits known n) (map value_seen vs) ≡ true) = and-true fit in
    both-true (value_is_below known n v both.0) (values_are_below known n vs both.1)

pref_is_below : (known n : ℕ) (p : Pref) → preference_fits known n (preference_seen p) ≡ true → pref_below n p ≡ true
pref_is_below known n pref.Accept fits = refl
pref_is_below known n pref.Reject fits = refl
pref_is_below known n pref.Require fits = refl
pref_is_below known n pref.Prohibit fits = refl
pref_is_below known n (pref.Better v) fits = value_is_below known n v fits
pref_is_below known n (pref.Worse v) fits = value_is_below known n v fits
pref_is_below known n pref.Best fits = refl
pref_is_below known n pref.Worst fits = refl
pref_is_below known n pref.Indifferent fits = refl
pref_is_below known n (pref.IndifferentTo v) fits = value_is_below known n v fits

action_is_below : (known n : ℕ) (a : Action) → action_fits known n (action_seen a) ≡ true → action_below n a ≡ true
action_is_below known n (Make id attr value p) fits =
    let one : (atom_fits known n id ≡ true) × ((value_fits known n (value_seen attr) && (value_fits known n (value_seen value) && preference_fits known n (preference_seen p))) ≡ true) = and-true fits in
    let two : (value_fits known n (value_seen attr) ≡ true) × ((value_fits known n (value_seen value) && preference_fits known n (preference_seen p)) ≡ true) = and-true one.1 in
    let three : (value_fits known n (value_seen value) ≡ true) × (preference_fits known n (preference_seen p) ≡ true) = and-true two.1 in
    both-true (atom_is_below known n id one.0) (both-true (value_is_below known n attr two.0) (both-true (value_is_below known n value three.0) (pref_is_below known n p three.1)))
action_is_below known n (Write vs) fits = values_are_below known n vs fits
action_is_below known n Halt fits = refl

pub actions_are_below : (known n : ℕ) (actions : List Action) → acts_fit known n (map action_seen actions) ≡ true → actions_below n actions ≡ true
actions_are_below known n [] fit = refl
actions_are_below known n (a ∷ actions) fit =
    let both : (action_fits known n (action_seen a) ≡ true) × (acts_fit known n (map action_seen actions) ≡ true) = and-true fit in
    both-true (action_is_below known n a both.0) (actions_are_below known n actions both.1)
