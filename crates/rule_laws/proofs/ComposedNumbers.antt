-- Conditions and actions whose atoms are changed twice in turn, or not at all.
use Rattle.std.specs.Prelude.{map}
use Rattle.std.proofs.Common.{◌≡◌, List, [], ◌∷◌, refl, ap, ap₂}
use Rattle.soar_rule.specs.declared.cond.Atom.{Atom}
use Rattle.soar_rule.specs.declared.cond.Test.{Test}
use Rattle.soar_rule.specs.declared.cond.Test.TheVariants.{Plain, Rel, OneOf}
use Rattle.soar_rule.specs.declared.cond.Field.{Field}
use Rattle.soar_rule.specs.declared.cond.Pattern.{Pattern}
use Rattle.soar_rule.specs.Conditions.{Condition, positive, negated, conjunctive, Conditions, no_more, condition_and}
use Rattle.soar_rule.specs.Productions.{ValueOf, atom_value, call_value, ValuesOf, no_values, value_and, PreferenceOf, accepts, rejects, requires_it, prohibits, is_best, is_worst, is_indifferent, is_better_than, is_worse_than, is_indifferent_to, ActionOf, makes, writes, halts}
use Rattle.soar_rule.specs.Renaming.{test_with, field_with, pattern_with, condition_with, conditions_with, value_with, values_with, preference_with, action_with}

-- ---- twice in turn

module _ (f g h : Atom → Atom) (in_turn : (a : Atom) → f (g a) ≡ h a) where
  test_twice : (t : Test) → test_with f (test_with g t) ≡ test_with h t
  test_twice (Plain a) = ap Plain (in_turn a)
  test_twice (Rel r a) = ap (Rel r) (in_turn a)
  test_twice (OneOf symbols) = refl

  tests_twice : (ts : List Test) → map (test_with f) (map (test_with g) ts) ≡ map (test_with h) ts
  tests_twice [] = refl
  tests_twice (t ∷ ts) = ap₂ (λ (x : Test) (xs : List Test). x ∷ xs) (test_twice t) (tests_twice ts)

  field_twice : (field : Field) → field_with f (field_with g field) ≡ field_with h field
  field_twice field = ap (λ (ts : List Test). let x : Field = record { tests = ts } in x) (tests_twice field.tests)

  pattern_twice : (p : Pattern) → pattern_with f (pattern_with g p) ≡ pattern_with h p
  pattern_twice p = λ i. record p { id = field_twice p.id i; attr = field_twice p.attr i; value = field_twice p.value i }

  mutual
    condition_twice : (c : Condition) → condition_with f (condition_with g c) ≡ condition_with h c
    condition_twice (positive p) = ap positive (pattern_twice p)
    condition_twice (negated p) = ap negated (pattern_twice p)
    condition_twice (conjunctive inside) = ap conjunctive (conditions_twice inside)

    pub conditions_twice : (cs : Conditions) → conditions_with f (conditions_with g cs) ≡ conditions_with h cs
    conditions_twice no_more = refl
    conditions_twice (condition_and c cs) = ap₂ condition_and (condition_twice c) (conditions_twice cs)

  mutual
    value_twice : (v : ValueOf) → value_with f (value_with g v) ≡ value_with h v
    value_twice (atom_value a) = ap atom_value (in_turn a)
    value_twice (call_value function vs) = ap (call_value function) (values_twice vs)

    values_twice : (vs : ValuesOf) → values_with f (values_with g vs) ≡ values_with h vs
    values_twice no_values = refl
    values_twice (value_and v vs) = ap₂ value_and (value_twice v) (values_twice vs)

  preference_twice : (p : PreferenceOf) → preference_with f (preference_with g p) ≡ preference_with h p
  preference_twice accepts = refl
  preference_twice rejects = refl
  preference_twice requires_it = refl
  preference_twice prohibits = refl
  preference_twice is_best = refl
  preference_twice is_worst = refl
  preference_twice is_indifferent = refl
  preference_twice (is_better_than v) = ap is_better_than (value_twice v)
  preference_twice (is_worse_than v) = ap is_worse_than (value_twice v)
  preference_twice (is_indifferent_to v) = ap is_indifferent_to (value_twice v)

  written_twice : (written : List ValueOf) → map (value_with f) (map (value_with g) written) ≡ map (value_with h) written
  written_twice [] = refl
  written_twice (v ∷ written) = ap₂ (λ (x : ValueOf) (xs : List ValueOf). x ∷ xs) (value_twice v) (written_twice written)

  action_twice : (a : ActionOf) → action_with f (action_with g a) ≡ action_with h a
  action_twice (makes id attr value p) = λ i. makes (in_turn id i) (value_twice attr i) (value_twice value i) (preference_twice p i)
  action_twice (writes written) = ap writes (written_twice written)
  action_twice halts = refl

  pub actions_twice : (actions : List ActionOf) → map (action_with f) (map (action_with g) actions) ≡ map (action_with h) actions
  actions_twice [] = refl
  actions_twice (a ∷ actions) = ap₂ (λ (x : ActionOf) (xs : List ActionOf). x ∷ xs) (action_twice a) (actions_twice actions)

-- ---- not at all

module _ (h : Atom → Atom) (kept : (a : Atom) → h a ≡ a) where
  test_kept : (t : Test) → test_with h t ≡ t
  test_kept (Plain a) = ap Plain (kept a)
  test_kept (Rel r a) = ap (Rel r) (kept a)
  test_kept (OneOf symbols) = refl

  tests_kept : (ts : List Test) → map (test_with h) ts ≡ ts
  tests_kept [] = refl
  tests_kept (t ∷ ts) = ap₂ (λ (x : Test) (xs : List Test). x ∷ xs) (test_kept t) (tests_kept ts)

  field_kept : (field : Field) → field_with h field ≡ field
  field_kept field = ap (λ (ts : List Test). let x : Field = record { tests = ts } in x) (tests_kept field.tests)

  pattern_kept : (p : Pattern) → pattern_with h p ≡ p
  pattern_kept p = λ i. record p { id = field_kept p.id i; attr = field_kept p.attr i; value = field_kept p.value i }

  mutual
    condition_kept : (c : Condition) → condition_with h c ≡ c
    condition_kept (positive p) = ap positive (pattern_kept p)
    condition_kept (negated p) = ap negated (pattern_kept p)
    condition_kept (conjunctive inside) = ap conjunctive (conditions_kept inside)

    pub conditions_kept : (cs : Conditions) → conditions_with h cs ≡ cs
    conditions_kept no_more = refl
    conditions_kept (condition_and c cs) = ap₂ condition_and (condition_kept c) (conditions_kept cs)

  mutual
    value_kept : (v : ValueOf) → value_with h v ≡ v
    value_kept (atom_value a) = ap atom_value (kept a)
    value_kept (call_value function vs) = ap (call_value function) (values_kept vs)

    values_kept : (vs : ValuesOf) → values_with h vs ≡ vs
    values_kept no_values = refl
    values_kept (value_and v vs) = ap₂ value_and (value_kept v) (values_kept vs)

  preference_kept : (p : PreferenceOf) → preference_with h p ≡ p
  preference_kept accepts = refl
  preference_kept rejects = refl
  preference_kept requires_it = refl
  preference_kept prohibits = refl
  preference_kept is_best = refl
  preference_kept is_worst = refl
  preference_kept is_indifferent = refl
  preference_kept (is_better_than v) = ap is_better_than (value_kept v)
  preference_kept (is_worse_than v) = ap is_worse_than (value_kept v)
  preference_kept (is_indifferent_to v) = ap is_indifferent_to (value_kept v)

  written_kept : (written : List ValueOf) → map (value_with h) written ≡ written
  written_kept [] = refl
  written_kept (v ∷ written) = ap₂ (λ (x : ValueOf) (xs : List ValueOf). x ∷ xs) (value_kept v) (written_kept written)

  action_kept : (a : ActionOf) → action_with h a ≡ a
  action_kept (makes id attr value p) = λ i. makes (kept id i) (value_kept attr i) (value_kept value i) (preference_kept p i)
  action_kept (writes written) = ap writes (written_kept written)
  action_kept halts = refl

  pub actions_kept : (actions : List ActionOf) → map (action_with h) actions ≡ actions
  actions_kept [] = refl
  actions_kept (a ∷ actions) = ap₂ (λ (x : ActionOf) (xs : List ActionOf). x ∷ xs) (action_kept a) (actions_kept actions)
