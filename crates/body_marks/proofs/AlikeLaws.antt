-- Productions whose canonical forms have the same body have one fingerprint.
use Rattle.std.proofs.Common.{◌≡◌, refl, sym, ◌∙◌, ap, ℕ, Bool, true, false, ◌&&◌, ◌==◌, List, [], ◌∷◌, map}
use Rattle.soar_sym.specs.Equality.{mark_eq, symbol_eq}
use Rattle.soar_sym.specs.declared.symbol.Sym.{Sym}
use Rattle.soar_sym.proofs.KeyLemmas.{symbol_same}
use Rattle.soar_rule.specs.declared.cond.Atom.{Atom}
use Rattle.soar_rule.specs.declared.cond.Atom.TheVariants.{Const, Var}
use Rattle.soar_rule.specs.declared.cond.Field.{Field}
use Rattle.soar_rule.specs.declared.cond.Pattern.{Pattern}
use Rattle.soar_rule.specs.declared.cond.Test.{Test}
use Rattle.soar_rule.specs.declared.cond.Test.TheVariants.{Plain, Rel, OneOf}
use Rattle.soar_rule.specs.Canonical.{canonical, in_order_of_occurrence, renumbered}
use Rattle.soar_rule.specs.Conditions.{Condition, positive, negated, conjunctive, Conditions, no_more, condition_and}
use Rattle.soar_rule.specs.Equality.{action_eq, atom_eq, condition_eq, conditions_eq, field_eq, function_place, list_eq, pattern_eq, preference_eq, relation_eq, same_body, support_place, test_eq, value_eq, values_eq}
use Rattle.soar_rule.specs.Productions.{ValueOf, atom_value, call_value, ValuesOf, no_values, value_and, values_of, PreferenceOf, accepts, rejects, requires_it, prohibits, is_best, is_worst, is_indifferent, is_better_than, is_worse_than, is_indifferent_to, ActionOf, makes, writes, halts, ProductionOf}
use Rattle.soar_rule.specs.Renaming.{action_with, condition_with, conditions_with, field_with, pattern_with, preference_with, test_with, value_with, values_with}
use Rattle.soar_rule.specs.Variables.{referent_value}
use Rattle.body_marks.specs.Fingerprint.{after_action, after_atom, after_condition, after_conditions, after_each, after_field, after_flag, after_number, after_pattern, after_referent, after_symbol, after_test, after_value, after_values, fingerprint}

no : {A : Type 0} → false ≡ true → A
no h = absurd (cc)

-- where both are so, each is
parts : (a b : Bool) → (a && b) ≡ true → (a ≡ true) × (b ≡ true)
parts true b h = (refl, h)
parts false b h = no h

flag_alike : (a b : Bool) → mark_eq a b ≡ true → (mark : ℕ) → after_flag a mark ≡ after_flag b mark
flag_alike true true e mark = refl
flag_alike false false e mark = refl
flag_alike a b e mark = no e

-- ---- lists

mapped : {A : Type 0} (same : A → A → Bool) (f g : A → A) (xs ys : List A) → list_eq same (map f xs) (map g ys) ≡ list_eq (λ x y. same (f x) (g y)) xs ys
mapped same f g [] [] = refl
mapped same f g [] (y ∷ ys) = refl
mapped same f g (x ∷ xs) [] = refl
mapped same f g (x ∷ xs) (y ∷ ys) = ap (λ b. same (f x) (g y) && b) (mapped same f g xs ys)

each_alike : {A : Type 0} (same : A → A → Bool) (after : A → ℕ → ℕ) → ((x y : A) → same x y ≡ true → (mark : ℕ) → after x mark ≡ after y mark)
    → (xs ys : List A) → list_eq same xs ys ≡ true → (mark : ℕ) → after_each after xs mark ≡ after_each after ys mark
each_alike same after one [] [] e mark = refl
each_alike same after one (x ∷ xs) (y ∷ ys) e mark =
    let both = parts (same x y) (list_eq same xs ys) e in
    each_alike same after one xs ys both.1 (after x mark) ∙ ap (after_each after ys) (one x y both.0 mark)
each_alike same after one xs ys e mark = no e

symbol_alike : (s t : Sym) → symbol_eq s t ≡ true → (mark : ℕ) → after_symbol s mark ≡ after_symbol t mark
symbol_alike s t e mark = ap (λ u. after_symbol u mark) (symbol_same s t e)

-- ---- the same after other atoms were put in the places of atoms

module _ (f g : Atom → Atom) (atom_alike : (a b : Atom) → atom_eq (f a) (g b) ≡ true → (mark : ℕ) → after_atom a mark ≡ after_atom b mark) where
  test_alike : (t u : Test) → test_eq (test_with f t) (test_with g u) ≡ true → (mark : ℕ) → after_test t mark ≡ after_test u mark
  test_alike (Plain a) (Plain b) e mark = atom_alike a b e mark
  test_alike (Rel r a) (Rel q b) e mark = atom_alike a b (parts (relation_eq r q) (atom_eq (f a) (g b)) e).1 (after_number 4 mark)
  test_alike (OneOf xs) (OneOf ys) e mark = each_alike symbol_eq after_symbol symbol_alike xs ys e (after_number 5 mark)
  test_alike t u e mark = no e

  field_alike : (c d : Field) → field_eq (field_with f c) (field_with g d) ≡ true → (mark : ℕ) → after_field c mark ≡ after_field d mark
  field_alike c d e mark =
      each_alike (λ t u. test_eq (test_with f t) (test_with g u)) after_test test_alike c.tests d.tests (sym (mapped test_eq (test_with f) (test_with g) c.tests d.tests) ∙ e) (after_number 6 mark)

  pattern_alike : (p q : Pattern) → pattern_eq (pattern_with f p) (pattern_with g q) ≡ true → (mark : ℕ) → after_pattern p mark ≡ after_pattern q mark
  pattern_alike p q e mark =
      let state = parts (mark_eq p.state q.state) (same_id && (same_attr && (same_value && mark_eq p.accept q.accept))) e in
      let id = parts same_id (same_attr && (same_value && mark_eq p.accept q.accept)) state.1 in
      let attr = parts same_attr (same_value && mark_eq p.accept q.accept) id.1 in
      let value = parts same_value (mark_eq p.accept q.accept) attr.1 in
      flag_alike p.accept q.accept value.1 (after_field p.value after_attr)
      ∙ ap (after_flag q.accept)
      (field_alike p.value q.value value.0 after_attr
      ∙ ap (after_field q.value)
      (field_alike p.attr q.attr attr.0 after_id
      ∙ ap (after_field q.attr) (field_alike p.id q.id id.0 (after_flag p.state mark) ∙ ap (after_field q.id) (flag_alike p.state q.state state.0 mark))))
    where
      same_id : Bool
      same_id = field_eq (field_with f p.id) (field_with g q.id)

      same_attr : Bool
      same_attr = field_eq (field_with f p.attr) (field_with g q.attr)

      same_value : Bool
      same_value = field_eq (field_with f p.value) (field_with g q.value)

      after_id : ℕ
      after_id = after_field p.id (after_flag p.state mark)

      after_attr : ℕ
      after_attr = after_field p.attr after_id

  mutual
    condition_alike : (c d : Condition) → condition_eq (condition_with f c) (condition_with g d) ≡ true → (mark : ℕ) → after_condition c mark ≡ after_condition d mark
    condition_alike (positive p) (positive q) e mark = pattern_alike p q e (after_number 7 mark)
    condition_alike (negated p) (negated q) e mark = pattern_alike p q e (after_number 8 mark)
    condition_alike (conjunctive cs) (conjunctive ds) e mark = conditions_alike cs ds e (after_number 9 mark)
    condition_alike c d e mark = no e

    conditions_alike : (cs ds : Conditions) → conditions_eq (conditions_with f cs) (conditions_with g ds) ≡ true → (mark : ℕ) → after_conditions cs mark ≡ after_conditions ds mark
    conditions_alike no_more no_more e mark = refl
    conditions_alike (condition_and c cs) (condition_and d ds) e mark =
        let both = parts (condition_eq (condition_with f c) (condition_with g d)) (conditions_eq (conditions_with f cs) (conditions_with g ds)) e in
        conditions_alike cs ds both.1 (after_condition c mark) ∙ ap (after_conditions ds) (condition_alike c d both.0 mark)
    conditions_alike cs ds e mark = no e

  mutual
    value_alike : (v w : ValueOf) → value_eq (value_with f v) (value_with g w) ≡ true → (mark : ℕ) → after_value v mark ≡ after_value w mark
    value_alike (atom_value a) (atom_value b) e mark = atom_alike a b e mark
    value_alike (call_value h vs) (call_value k ws) e mark =
        values_alike vs ws (parts (function_place h == function_place k) (values_eq (values_with f vs) (values_with g ws)) e).1 (after_number 10 mark)
    value_alike v w e mark = no e

    values_alike : (vs ws : ValuesOf) → values_eq (values_with f vs) (values_with g ws) ≡ true → (mark : ℕ) → after_values vs mark ≡ after_values ws mark
    values_alike no_values no_values e mark = refl
    values_alike (value_and v vs) (value_and w ws) e mark =
        let both = parts (value_eq (value_with f v) (value_with g w)) (values_eq (values_with f vs) (values_with g ws)) e in
        values_alike vs ws both.1 (after_value v mark) ∙ ap (after_values ws) (value_alike v w both.0 mark)
    values_alike vs ws e mark = no e

  written_alike : (vs ws : List ValueOf) → list_eq value_eq (map (value_with f) vs) (map (value_with g) ws) ≡ true → (mark : ℕ) → after_values (values_of vs) mark ≡ after_values (values_of ws) mark
  written_alike [] [] e mark = refl
  written_alike (v ∷ vs) (w ∷ ws) e mark =
      let both = parts (value_eq (value_with f v) (value_with g w)) (list_eq value_eq (map (value_with f) vs) (map (value_with g) ws)) e in
      written_alike vs ws both.1 (after_value v mark) ∙ ap (after_values (values_of ws)) (value_alike v w both.0 mark)
  written_alike vs ws e mark = no e

  referent_alike : (p q : PreferenceOf) → preference_eq (preference_with f p) (preference_with g q) ≡ true → (mark : ℕ)
      → after_referent (referent_value p) mark ≡ after_referent (referent_value q) mark
  referent_alike accepts accepts e mark = refl
  referent_alike rejects rejects e mark = refl
  referent_alike requires_it requires_it e mark = refl
  referent_alike prohibits prohibits e mark = refl
  referent_alike is_best is_best e mark = refl
  referent_alike is_worst is_worst e mark = refl
  referent_alike is_indifferent is_indifferent e mark = refl
  referent_alike (is_better_than v) (is_better_than w) e mark = value_alike v w e mark
  referent_alike (is_worse_than v) (is_worse_than w) e mark = value_alike v w e mark
  referent_alike (is_indifferent_to v) (is_indifferent_to w) e mark = value_alike v w e mark
  referent_alike p q e mark = no e

  action_alike : (a b : ActionOf) → action_eq (action_with f a) (action_with g b) ≡ true → (mark : ℕ) → after_action a mark ≡ after_action b mark
  action_alike (makes id attr value p) (makes other_id other_attr other_value q) e mark =
      let same_attr = value_eq (value_with f attr) (value_with g other_attr) in
      let same_value = value_eq (value_with f value) (value_with g other_value) in
      let same_kind = preference_eq (preference_with f p) (preference_with g q) in
      let ids = parts (atom_eq (f id) (g other_id)) (same_attr && (same_value && same_kind)) e in
      let attrs = parts same_attr (same_value && same_kind) ids.1 in
      let values = parts same_value same_kind attrs.1 in
      let after_id = after_atom id (after_number 11 mark) in
      referent_alike p q values.1 (after_value value (after_value attr after_id))
      ∙ ap (after_referent (referent_value q))
      (value_alike value other_value values.0 (after_value attr after_id)
      ∙ ap (after_value other_value) (value_alike attr other_attr attrs.0 after_id ∙ ap (after_value other_attr) (atom_alike id other_id ids.0 (after_number 11 mark))))
  action_alike (writes vs) (writes ws) e mark = written_alike vs ws e (after_number 12 mark)
  action_alike halts halts e mark = refl
  action_alike a b e mark = no e

  actions_alike : (xs ys : List ActionOf) → list_eq action_eq (map (action_with f) xs) (map (action_with g) ys) ≡ true → (mark : ℕ) → after_each after_action xs mark ≡ after_each after_action ys mark
  actions_alike xs ys e mark = each_alike (λ a b. action_eq (action_with f a) (action_with g b)) after_action action_alike xs ys (sym (mapped action_eq (action_with f) (action_with g) xs ys) ∙ e) mark

-- ---- canonical forms

atoms_alike : (order other : List ℕ) (a b : Atom) → atom_eq (renumbered order a) (renumbered other b) ≡ true → (mark : ℕ) → after_atom a mark ≡ after_atom b mark
atoms_alike order other (Const s) (Const t) e mark = symbol_alike s t e mark
atoms_alike order other (Var v) (Var w) e mark = refl
atoms_alike order other a b e mark = no e

pub same_fingerprint : (p q : ProductionOf) → same_body (canonical p) (canonical q) ≡ true → fingerprint p ≡ fingerprint q
unfolding canonical fingerprint
same_fingerprint p q e =
    let order = in_order_of_occurrence p.conditions p.actions in
    let other = in_order_of_occurrence q.conditions q.actions in
    let same_conditions = conditions_eq (conditions_with (renumbered order) p.conditions) (conditions_with (renumbered other) q.conditions) in
    let same_actions = list_eq action_eq (map (action_with (renumbered order)) p.actions) (map (action_with (renumbered other)) q.actions) in
    let support = parts (support_place p.support == support_place q.support) (same_conditions && same_actions) e in
    let bodies = parts same_conditions same_actions support.1 in
    actions_alike (renumbered order) (renumbered other) (atoms_alike order other) p.actions q.actions bodies.1 (after_conditions p.conditions 0)
    ∙ ap (after_each after_action q.actions) (conditions_alike (renumbered order) (renumbered other) (atoms_alike order other) p.conditions q.conditions bodies.0 0)
