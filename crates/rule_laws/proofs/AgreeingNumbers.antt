-- Conditions and actions are the same under two numberings that agree on their variables.
use Rattle.std.specs.Prelude.{map, flat_map}
use Rattle.std.proofs.Common.{◌≡◌, ℕ, Bool, true, false, ◌||◌, List, [], ◌∷◌, ◌++◌, refl, ◌∙◌, ap, ap₂, eq-eqb}
use Rattle.soar_rule.specs.declared.cond.Atom.{Atom}
use Rattle.soar_rule.specs.declared.cond.Atom.TheVariants.{Const, Var}
use Rattle.soar_rule.specs.declared.cond.Test.{Test}
use Rattle.soar_rule.specs.declared.cond.Test.TheVariants.{Plain, Rel, OneOf}
use Rattle.soar_rule.specs.declared.cond.Field.{Field}
use Rattle.soar_rule.specs.declared.cond.Pattern.{Pattern}
use Rattle.soar_rule.specs.Alike.{variable_with}
use Rattle.soar_rule.specs.Conditions.{Condition, positive, negated, conjunctive, Conditions, no_more, condition_and}
use Rattle.soar_rule.specs.Productions.{ValueOf, atom_value, call_value, ValuesOf, no_values, value_and, PreferenceOf, accepts, rejects, requires_it, prohibits, is_best, is_worst, is_indifferent, is_better_than, is_worse_than, is_indifferent_to, ActionOf, makes, writes, halts}
use Rattle.soar_rule.specs.Renaming.{test_with, field_with, pattern_with, condition_with, conditions_with, value_with, values_with, preference_with, action_with}
use Rattle.soar_rule.proofs.VariableLemmas.{among_joined}
use Rattle.soar_rule.specs.Variables.{is_among, variables_of_atom, variables_of_test, variables_of_field, variables_of_pattern, variables_of_condition, variables_of_conditions, variables_of_value, variables_of_values, referent_value, of_referent, variables_of_action}

-- ---- lists of variables

last_true : (b c : Bool) → c ≡ true → (b || c) ≡ true
last_true true c e = refl
last_true false c e = e

pub among_front : (vs ws : List ℕ) (v : ℕ) → is_among vs v ≡ true → is_among (vs ++ ws) v ≡ true
among_front vs ws v e = among_joined vs ws v ∙ ap (λ b. b || is_among ws v) e

pub among_back : (vs ws : List ℕ) (v : ℕ) → is_among ws v ≡ true → is_among (vs ++ ws) v ≡ true
among_back vs ws v e = among_joined vs ws v ∙ last_true (is_among vs v) (is_among ws v) e

-- the two give each of these variables one number
abbrev pub Agree : (ℕ → ℕ) → (ℕ → ℕ) → List ℕ → Type 0
Agree f g vs = (v : ℕ) → is_among vs v ≡ true → f v ≡ g v

pub agree_front : (f g : ℕ → ℕ) (vs ws : List ℕ) → Agree f g (vs ++ ws) → Agree f g vs
agree_front f g vs ws h v e = h v (among_front vs ws v e)

pub agree_back : (f g : ℕ → ℕ) (vs ws : List ℕ) → Agree f g (vs ++ ws) → Agree f g ws
agree_back f g vs ws h v e = h v (among_back vs ws v e)

-- ---- conditions

atom_agrees : (f g : ℕ → ℕ) (a : Atom) → Agree f g (variables_of_atom a) → variable_with f a ≡ variable_with g a
atom_agrees f g (Const s) h = refl
atom_agrees f g (Var v) h = ap Var (h v (ap (λ b. b || false) (eq-eqb v v refl)))

test_agrees : (f g : ℕ → ℕ) (t : Test) → Agree f g (variables_of_test t) → test_with (variable_with f) t ≡ test_with (variable_with g) t
test_agrees f g (Plain (Const s)) h = refl
test_agrees f g (Plain (Var v)) h = ap Plain (atom_agrees f g (Var v) h)
test_agrees f g (Rel r a) h = ap (Rel r) (atom_agrees f g a h)
test_agrees f g (OneOf symbols) h = refl

tests_agree : (f g : ℕ → ℕ) (ts : List Test) → Agree f g (flat_map variables_of_test ts) → map (test_with (variable_with f)) ts ≡ map (test_with (variable_with g)) ts
tests_agree f g [] h = refl
tests_agree f g (t ∷ ts) h =
    ap₂ (λ (x : Test) (xs : List Test). x ∷ xs) (test_agrees f g t (agree_front f g (variables_of_test t) (flat_map variables_of_test ts) h))
    (tests_agree f g ts (agree_back f g (variables_of_test t) (flat_map variables_of_test ts) h))

field_agrees : (f g : ℕ → ℕ) (field : Field) → Agree f g (variables_of_field field) → field_with (variable_with f) field ≡ field_with (variable_with g) field
field_agrees f g field h = ap (λ (ts : List Test). let x : Field = record { tests = ts } in x) (tests_agree f g field.tests h)

pattern_agrees : (f g : ℕ → ℕ) (p : Pattern) → Agree f g (variables_of_pattern p) → pattern_with (variable_with f) p ≡ pattern_with (variable_with g) p
pattern_agrees f g p h =
    let later = agree_back f g (variables_of_field p.id) (variables_of_field p.attr ++ variables_of_field p.value) h in
    let id = field_agrees f g p.id (agree_front f g (variables_of_field p.id) (variables_of_field p.attr ++ variables_of_field p.value) h) in
    let attr = field_agrees f g p.attr (agree_front f g (variables_of_field p.attr) (variables_of_field p.value) later) in
    let value = field_agrees f g p.value (agree_back f g (variables_of_field p.attr) (variables_of_field p.value) later) in
    λ i. record p { id = id i; attr = attr i; value = value i }

mutual
  condition_agrees : (c : Condition) (f g : ℕ → ℕ) → Agree f g (variables_of_condition c) → condition_with (variable_with f) c ≡ condition_with (variable_with g) c
  condition_agrees (positive p) f g h = ap positive (pattern_agrees f g p h)
  condition_agrees (negated p) f g h = ap negated (pattern_agrees f g p h)
  condition_agrees (conjunctive inside) f g h = ap conjunctive (conditions_agree inside f g h)

  pub conditions_agree : (cs : Conditions) (f g : ℕ → ℕ) → Agree f g (variables_of_conditions cs) → conditions_with (variable_with f) cs ≡ conditions_with (variable_with g) cs
  conditions_agree no_more f g h = refl
  conditions_agree (condition_and c cs) f g h =
      ap₂ condition_and (condition_agrees c f g (agree_front f g (variables_of_condition c) (variables_of_conditions cs) h))
      (conditions_agree cs f g (agree_back f g (variables_of_condition c) (variables_of_conditions cs) h))

-- ---- actions

mutual
  value_agrees : (v : ValueOf) (f g : ℕ → ℕ) → Agree f g (variables_of_value v) → value_with (variable_with f) v ≡ value_with (variable_with g) v
  value_agrees (atom_value a) f g h = ap atom_value (atom_agrees f g a h)
  value_agrees (call_value function vs) f g h = ap (call_value function) (values_agree vs f g h)

  values_agree : (vs : ValuesOf) (f g : ℕ → ℕ) → Agree f g (variables_of_values vs) → values_with (variable_with f) vs ≡ values_with (variable_with g) vs
  values_agree no_values f g h = refl
  values_agree (value_and v vs) f g h =
      ap₂ value_and (value_agrees v f g (agree_front f g (variables_of_value v) (variables_of_values vs) h))
      (values_agree vs f g (agree_back f g (variables_of_value v) (variables_of_values vs) h))

preference_agrees : (f g : ℕ → ℕ) (p : PreferenceOf) → Agree f g (of_referent variables_of_value (referent_value p)) → preference_with (variable_with f) p ≡ preference_with (variable_with g) p
preference_agrees f g accepts h = refl
preference_agrees f g rejects h = refl
preference_agrees f g requires_it h = refl
preference_agrees f g prohibits h = refl
preference_agrees f g is_best h = refl
preference_agrees f g is_worst h = refl
preference_agrees f g is_indifferent h = refl
preference_agrees f g (is_better_than v) h = ap is_better_than (value_agrees v f g h)
preference_agrees f g (is_worse_than v) h = ap is_worse_than (value_agrees v f g h)
preference_agrees f g (is_indifferent_to v) h = ap is_indifferent_to (value_agrees v f g h)

written_agree : (f g : ℕ → ℕ) (written : List ValueOf) → Agree f g (flat_map variables_of_value written) → map (value_with (variable_with f)) written ≡ map (value_with (variable_with g)) written
written_agree f g [] h = refl
written_agree f g (v ∷ written) h =
    ap₂ (λ (x : ValueOf) (xs : List ValueOf). x ∷ xs) (value_agrees v f g (agree_front f g (variables_of_value v) (flat_map variables_of_value written) h))
    (written_agree f g written (agree_back f g (variables_of_value v) (flat_map variables_of_value written) h))

action_agrees : (f g : ℕ → ℕ) (a : ActionOf) → Agree f g (variables_of_action a) → action_with (variable_with f) a ≡ action_with (variable_with g) a
action_agrees f g (makes id attr value p) h =
    let named : List ℕ = variables_of_atom id in
    let attrs : List ℕ = variables_of_value attr in
    let values : List ℕ = variables_of_value value in
    let referents : List ℕ = of_referent variables_of_value (referent_value p) in
    let behind = agree_back f g named (attrs ++ (values ++ referents)) h in
    let last = agree_back f g attrs (values ++ referents) behind in
    let the_id = atom_agrees f g id (agree_front f g named (attrs ++ (values ++ referents)) h) in
    let the_attr = value_agrees attr f g (agree_front f g attrs (values ++ referents) behind) in
    let the_value = value_agrees value f g (agree_front f g values referents last) in
    let the_preference = preference_agrees f g p (agree_back f g values referents last) in
    λ i. makes (the_id i) (the_attr i) (the_value i) (the_preference i)
action_agrees f g (writes written) h = ap writes (written_agree f g written h)
action_agrees f g halts h = refl

pub actions_agree : (f g : ℕ → ℕ) (actions : List ActionOf) → Agree f g (flat_map variables_of_action actions) → map (action_with (variable_with f)) actions ≡ map (action_with (variable_with g)) actions
actions_agree f g [] h = refl
actions_agree f g (a ∷ actions) h =
    ap₂ (λ (x : ActionOf) (xs : List ActionOf). x ∷ xs) (action_agrees f g a (agree_front f g (variables_of_action a) (flat_map variables_of_action actions) h))
    (actions_agree f g actions (agree_back f g (variables_of_action a) (flat_map variables_of_action actions) h))
