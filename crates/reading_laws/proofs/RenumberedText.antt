-- The text of conditions and actions is the same where each variable has another number under the same name.
use Rattle.std.specs.Prelude.{codes, flat_map, map, if◌then◌else◌}
use Rattle.std.proofs.Common.{◌≡◌, refl, ap, ap₂, true, false, [], ◌∷◌, ◌++◌, List, ℕ, ◌||◌, eq-eqb}
use Rattle.soar_sym.specs.Words.{Texts}
use Rattle.soar_sym.specs.declared.symbol.Sym.{Sym}
use Rattle.soar_rule.specs.declared.cond.Atom.{Atom}
use Rattle.soar_rule.specs.declared.cond.Atom.TheVariants.{Const, Var}
use Rattle.soar_rule.specs.declared.cond.Test.{Test}
use Rattle.soar_rule.specs.declared.cond.Test.TheVariants.{Plain, Rel, OneOf}
use Rattle.soar_rule.specs.declared.cond.Field.{Field}
use Rattle.soar_rule.specs.declared.cond.Pattern.{Pattern}
use Rattle.soar_rule.specs.Alike.{variable_with}
use Rattle.soar_rule.specs.Conditions.{Condition, positive, negated, conjunctive, Conditions, no_more, condition_and}
use Rattle.soar_rule.specs.Productions.{ValueOf, atom_value, call_value, ValuesOf, no_values, value_and, values_of, PreferenceOf, accepts, rejects, requires_it, prohibits, is_best, is_worst, is_indifferent, is_better_than, is_worse_than, is_indifferent_to, ActionOf, makes, writes, halts}
use Rattle.soar_rule.specs.Renaming.{test_with, field_with, pattern_with, condition_with, conditions_with, value_with, values_with, preference_with, action_with}
use Rattle.soar_rule.specs.Variables.{is_among, variables_of_atom, variables_of_test, variables_of_field, variables_of_pattern, variables_of_condition, variables_of_conditions, variables_of_value, variables_of_values, referent_value, of_referent, variables_of_action}
use Rattle.defs_text.specs.Symbols.{barred}
use Rattle.defs_read.specs.Printing.{function_text, value_text, values_text, preference_text, action_text}
use Rattle.defs_read.specs.PrintingConditions.{Naming, name_at, bare_text, atom_text, relation_text, test_text, tests_text, field_text, is_state_test, id_test_text, id_text, pattern_text, condition_text, inside_text, condition_lines}
use Rattle.rule_laws.proofs.AgreeingNumbers.{among_front, among_back}

module _ (words : Texts) (vars others : List Sym) (number : ℕ → ℕ) where
  -- the names as they were, and those under the other numbers
  abbrev pub old : Naming
  old = record { words = words; vars = vars }

  abbrev pub new : Naming
  new = record { words = words; vars = others }

  -- each of these variables has its name under its other number
  abbrev pub AreNamed : List ℕ → Type 0
  AreNamed vs = (v : ℕ) → is_among vs v ≡ true → name_at others (number v) ≡ name_at vars v

  pub named_front : (vs ws : List ℕ) → AreNamed (vs ++ ws) → AreNamed vs
  named_front vs ws h v e = h v (among_front vs ws v e)

  pub named_back : (vs ws : List ℕ) → AreNamed (vs ++ ws) → AreNamed ws
  named_back vs ws h v e = h v (among_back vs ws v e)

  atom_again : (a : Atom) → AreNamed (variables_of_atom a) → atom_text new (variable_with number a) ≡ atom_text old a
  atom_again (Const s) h = refl
  atom_again (Var v) h = ap (λ s. 60 ∷ (bare_text words s ++ (62 ∷ []))) (h v (ap (λ b. b || false) (eq-eqb v v refl)))

  -- ---- fields

  test_again : (t : Test) → AreNamed (variables_of_test t) → test_text new (test_with (variable_with number) t) ≡ test_text old t
  test_again (Plain (Const s)) h = refl
  test_again (Plain (Var v)) h = atom_again (Var v) h
  test_again (Rel r a) h = ap (λ text. relation_text r ++ (32 ∷ text)) (atom_again a h)
  test_again (OneOf symbols) h = refl

  state_again : (t : Test) → is_state_test (test_with (variable_with number) t) ≡ is_state_test t
  state_again (Plain (Const s)) = refl
  state_again (Plain (Var v)) = refl
  state_again (Rel r a) = refl
  state_again (OneOf symbols) = refl

  id_test_again : (t : Test) → AreNamed (variables_of_test t) → id_test_text new (test_with (variable_with number) t) ≡ id_test_text old t
  id_test_again t h = ap₂ (λ b text. if b then barred (codes "state") else text) (state_again t) (test_again t h)

  -- the texts of tests, each as it was
  tests_again : (text other : Test → List ℕ) → ((t : Test) → AreNamed (variables_of_test t) → other (test_with (variable_with number) t) ≡ text t)
      → (ts : List Test) → AreNamed (flat_map variables_of_test ts) → map other (map (test_with (variable_with number)) ts) ≡ map text ts
  tests_again text other each [] h = refl
  tests_again text other each (t ∷ ts) h =
      ap₂ (λ (x : List ℕ) (xs : List (List ℕ)). x ∷ xs) (each t (named_front (variables_of_test t) (flat_map variables_of_test ts) h))
      (tests_again text other each ts (named_back (variables_of_test t) (flat_map variables_of_test ts) h))

  field_again : (f : Field) → AreNamed (variables_of_field f) → field_text new (field_with (variable_with number) f) ≡ field_text old f
  field_again f h = ap tests_text (tests_again (test_text old) (test_text new) test_again f.tests h)

  id_again : (f : Field) → AreNamed (variables_of_field f) → id_text new (field_with (variable_with number) f) ≡ id_text old f
  id_again f h = ap tests_text (tests_again (id_test_text old) (id_test_text new) id_test_again f.tests h)

  -- ---- conditions

  pattern_again : (p : Pattern) → AreNamed (variables_of_pattern p) → pattern_text new (pattern_with (variable_with number) p) ≡ pattern_text old p
  pattern_again p h =
      let behind = named_back (variables_of_field p.id) (variables_of_field p.attr ++ variables_of_field p.value) h in
      let id = id_again p.id (named_front (variables_of_field p.id) (variables_of_field p.attr ++ variables_of_field p.value) h) in
      let attr = field_again p.attr (named_front (variables_of_field p.attr) (variables_of_field p.value) behind) in
      let value = field_again p.value (named_back (variables_of_field p.attr) (variables_of_field p.value) behind) in
      λ i. codes "(" ++ ((if p.state then codes "state " else []) ++ (id i ++ (codes " ^" ++ (attr i ++ (32 ∷ (value i ++ (if p.accept then codes " +)" else codes ")")))))))

  mutual
    condition_again : (c : Condition) → AreNamed (variables_of_condition c) → condition_text (condition_with (variable_with number) c) new ≡ condition_text c old
    condition_again (positive p) h = pattern_again p h
    condition_again (negated p) h = ap (λ text. 45 ∷ text) (pattern_again p h)
    condition_again (conjunctive inside) h = ap (λ text. codes "-{" ++ (text ++ codes "}")) (inside_again inside h)

    inside_again : (cs : Conditions) → AreNamed (variables_of_conditions cs) → inside_text (conditions_with (variable_with number) cs) new ≡ inside_text cs old
    inside_again no_more h = refl
    inside_again (condition_and c no_more) h = condition_again c (named_front (variables_of_condition c) [] h)
    inside_again (condition_and c (condition_and d cs)) h =
        let rest : List ℕ = variables_of_condition d ++ variables_of_conditions cs in
        ap₂ (λ text more. text ++ (32 ∷ more)) (condition_again c (named_front (variables_of_condition c) rest h))
        (inside_again (condition_and d cs) (named_back (variables_of_condition c) rest h))

  pub lines_again : (cs : Conditions) → AreNamed (variables_of_conditions cs) → condition_lines (conditions_with (variable_with number) cs) new ≡ condition_lines cs old
  lines_again no_more h = refl
  lines_again (condition_and c cs) h =
      ap₂ (λ (x : List ℕ) (xs : List (List ℕ)). x ∷ xs) (condition_again c (named_front (variables_of_condition c) (variables_of_conditions cs) h))
      (lines_again cs (named_back (variables_of_condition c) (variables_of_conditions cs) h))

  -- ---- actions

  mutual
    value_again : (v : ValueOf) → AreNamed (variables_of_value v) → value_text (value_with (variable_with number) v) new ≡ value_text v old
    value_again (atom_value a) h = atom_again a h
    value_again (call_value f vs) h = ap (λ text. codes "(" ++ (function_text f ++ (text ++ codes ")"))) (values_again vs h)

    values_again : (vs : ValuesOf) → AreNamed (variables_of_values vs) → values_text (values_with (variable_with number) vs) new ≡ values_text vs old
    values_again no_values h = refl
    values_again (value_and v vs) h =
        ap₂ (λ text more. 32 ∷ (text ++ more)) (value_again v (named_front (variables_of_value v) (variables_of_values vs) h))
        (values_again vs (named_back (variables_of_value v) (variables_of_values vs) h))

  written_again : (written : List ValueOf) → AreNamed (flat_map variables_of_value written) → values_text (values_of (map (value_with (variable_with number)) written)) new ≡ values_text (values_of written) old
  written_again [] h = refl
  written_again (v ∷ written) h =
      ap₂ (λ text more. 32 ∷ (text ++ more)) (value_again v (named_front (variables_of_value v) (flat_map variables_of_value written) h))
      (written_again written (named_back (variables_of_value v) (flat_map variables_of_value written) h))

  preference_again : (p : PreferenceOf) → AreNamed (of_referent variables_of_value (referent_value p)) → preference_text new (preference_with (variable_with number) p) ≡ preference_text old p
  preference_again accepts h = refl
  preference_again rejects h = refl
  preference_again requires_it h = refl
  preference_again prohibits h = refl
  preference_again is_best h = refl
  preference_again is_worst h = refl
  preference_again is_indifferent h = refl
  preference_again (is_better_than v) h = ap (λ text. codes "> " ++ text) (value_again v h)
  preference_again (is_worse_than v) h = ap (λ text. codes "< " ++ text) (value_again v h)
  preference_again (is_indifferent_to v) h = ap (λ text. codes "= " ++ text) (value_again v h)

  action_again : (a : ActionOf) → AreNamed (variables_of_action a) → action_text new (action_with (variable_with number) a) ≡ action_text old a
  action_again (makes id attr value p) h =
      let attrs : List ℕ = variables_of_value attr in
      let values : List ℕ = variables_of_value value in
      let referents : List ℕ = of_referent variables_of_value (referent_value p) in
      let behind = named_back (variables_of_atom id) (attrs ++ (values ++ referents)) h in
      let last = named_back attrs (values ++ referents) behind in
      let the_id = atom_again id (named_front (variables_of_atom id) (attrs ++ (values ++ referents)) h) in
      let the_attr = value_again attr (named_front attrs (values ++ referents) behind) in
      let the_value = value_again value (named_front values referents last) in
      let the_preference = preference_again p (named_back values referents last) in
      λ i. codes "(" ++ (the_id i ++ (codes " ^" ++ (the_attr i ++ (32 ∷ (the_value i ++ (32 ∷ (the_preference i ++ codes ")")))))))
  action_again (writes written) h = ap (λ text. codes "(write" ++ (text ++ codes ")")) (written_again written h)
  action_again halts h = refl

  pub actions_again : (actions : List ActionOf) → AreNamed (flat_map variables_of_action actions) → map (action_text new) (map (action_with (variable_with number)) actions) ≡ map (action_text old) actions
  actions_again [] h = refl
  actions_again (a ∷ actions) h =
      ap₂ (λ (x : List ℕ) (xs : List (List ℕ)). x ∷ xs) (action_again a (named_front (variables_of_action a) (flat_map variables_of_action actions) h))
      (actions_again actions (named_back (variables_of_action a) (flat_map variables_of_action actions) h))
