-- A production that can be printed has the same text, and the same tree of it, with each longer table of words.
use Rattle.std.specs.Prelude.{codes, map, if◌then◌else◌}
use Rattle.std.proofs.Common.{◌≡◌, refl, ap, ap₂, true, false, [], ◌∷◌, ◌++◌, List, ℕ, Some, None}
use Rattle.soar_sym.specs.Words.{Texts}
use Rattle.soar_sym.specs.declared.symbol.Sym.{Sym}
use Rattle.soar_sym.specs.declared.symbol.Sym.TheVariants.{Ident, Word, Int}
use Rattle.soar_rule.specs.declared.cond.Atom.{Atom}
use Rattle.soar_rule.specs.declared.cond.Atom.TheVariants.{Const, Var}
use Rattle.soar_rule.specs.declared.cond.Test.{Test}
use Rattle.soar_rule.specs.declared.cond.Test.TheVariants.{Plain, Rel, OneOf}
use Rattle.soar_rule.specs.declared.cond.Field.{Field}
use Rattle.soar_rule.specs.declared.cond.Pattern.{Pattern}
use Rattle.soar_rule.specs.Conditions.{Condition, positive, negated, conjunctive, Conditions, no_more, condition_and}
use Rattle.soar_rule.specs.Productions.{ValueOf, atom_value, call_value, ValuesOf, no_values, value_and, values_of, PreferenceOf, accepts, rejects, requires_it, prohibits, is_best, is_worst, is_indifferent, is_better_than, is_worse_than, is_indifferent_to, ActionOf, makes, writes, halts}
use Rattle.defs_text.specs.Symbols.{barred, word_text, symbol_text}
use Rattle.defs_read.specs.Grammar.{Single, a_variable, a_constant, Simple, one_of, tested, grouped, joined, part_and, Term, simple, called, term_and, comparing, making, writing}
use Rattle.defs_read.specs.Printing.{function_text, value_text, values_text, preference_text, action_text}
use Rattle.defs_read.specs.PrintingConditions.{Naming, name_at, bare_text, atom_text, relation_text, spaced, test_text, tests_text, field_text, is_state_test, id_test_text, id_text, pattern_text, condition_text, inside_text, condition_lines}
use Rattle.reading_laws.specs.Lawful.{AllOf}
use Rattle.reading_laws.specs.Printable.{IsConstant, IsAny, IsAtom, IsTest, IsPrintedField, IsPattern, IsCondition, AreConditions, IsValue, AreValues, IsPreference, IsPrintedAction}
use Rattle.reading_laws.specs.TreeBack.{word_back, constant_back, single_back, sign_back, alternatives_back, test_back, state_barred, id_test_back, tests_back, field_back, id_back, group_back, part_back, inside_back, parts_back, term_back, terms_back, wish_back, action_back, first_back, others_back}
use Rattle.reading_laws.proofs.LaterPrintable.{placed_later}

-- each of them gives the same
each_same : {A B : Type 0} (ok : A → Type 0) (f g : A → B) → ((a : A) → ok a → f a ≡ g a) → (xs : List A) → AllOf ok xs → map f xs ≡ map g xs
each_same ok f g same [] h = refl
each_same {A} {B} ok f g same (x ∷ xs) h = ap₂ (λ (y : B) (ys : List B). y ∷ ys) (same x h.0) (each_same ok f g same xs h.1)

module _ (words more : Texts) where
  symbol_same : (s : Sym) → IsConstant words s → symbol_text (words ++ more) s ≡ symbol_text words s
  symbol_same (Word w) h = ap word_text (placed_later words more (Word w) h.0).1
  symbol_same (Int value) h = refl
  symbol_same (Ident letter count) h = absurd h

  constant_same : (s : Sym) → IsConstant words s → constant_back (words ++ more) s ≡ constant_back words s
  constant_same (Word w) h = ap word_back (placed_later words more (Word w) h.0).1
  constant_same (Int value) h = refl
  constant_same (Ident letter count) h = absurd h

  alternatives_same : (symbols : List Sym) → IsAny symbols → AllOf (IsConstant words) symbols → alternatives_back (words ++ more) symbols ≡ alternatives_back words symbols
  alternatives_same [] any h = absurd any
  alternatives_same (s ∷ symbols) any h =
      let first = constant_same s h.0 in
      let others = each_same (IsConstant words) (constant_back (words ++ more)) (constant_back words) constant_same symbols h.1 in
      λ i. record { first = first i; others = others i }

-- ---- with the names of variables, each of which has one text in both tables

module _ (words more : Texts) (vars : List Sym) (named : (v : ℕ) → bare_text (words ++ more) (name_at vars v) ≡ bare_text words (name_at vars v)) where
  abbrev old : Naming
  old = record { words = words; vars = vars }

  abbrev new : Naming
  new = record { words = words ++ more; vars = vars }

  atom_same : (a : Atom) → IsAtom words a → atom_text new a ≡ atom_text old a
  atom_same (Const s) h = symbol_same words more s h
  atom_same (Var v) h = ap (λ text. 60 ∷ (text ++ (62 ∷ []))) (named v)

  single_same : (a : Atom) → IsAtom words a → single_back new a ≡ single_back old a
  single_same (Const s) h = ap a_constant (constant_same words more s h)
  single_same (Var v) h = ap a_variable (named v)

  -- ---- fields

  test_same : (t : Test) → IsTest words t → test_text new t ≡ test_text old t
  test_same (Plain a) h = atom_same a h
  test_same (Rel r a) h = ap (λ text. relation_text r ++ (32 ∷ text)) (atom_same a h)
  test_same (OneOf symbols) h =
      ap (λ texts. codes "<<" ++ (spaced texts ++ codes " >>")) (each_same (IsConstant words) (symbol_text (words ++ more)) (symbol_text words) (symbol_same words more) symbols h.1)

  id_test_same : (t : Test) → IsTest words t → id_test_text new t ≡ id_test_text old t
  id_test_same t h = ap (λ text. if is_state_test t then barred (codes "state") else text) (test_same t h)

  field_same : (f : Field) → IsPrintedField words f → field_text new f ≡ field_text old f
  field_same f h = ap tests_text (each_same (IsTest words) (test_text new) (test_text old) test_same f.tests h.1)

  id_same : (f : Field) → IsPrintedField words f → id_text new f ≡ id_text old f
  id_same f h = ap tests_text (each_same (IsTest words) (id_test_text new) (id_test_text old) id_test_same f.tests h.1)

  simple_same : (t : Test) → IsTest words t → test_back new t ≡ test_back old t
  simple_same (Plain a) h = ap (λ (s : Single). tested (record { relation = None; single = s })) (single_same a h)
  simple_same (Rel r a) h = ap (λ (s : Single). tested (record { relation = Some (sign_back r); single = s })) (single_same a h)
  simple_same (OneOf symbols) h = ap one_of (alternatives_same words more symbols h.0 h.1)

  id_simple_same : (t : Test) → IsTest words t → id_test_back new t ≡ id_test_back old t
  id_simple_same t h = ap (λ (s : Simple). if is_state_test t then state_barred else s) (simple_same t h)

  field_tree_same : (f : Field) → IsPrintedField words f → field_back new f ≡ field_back old f
  field_tree_same f h = ap tests_back (each_same (IsTest words) (test_back new) (test_back old) simple_same f.tests h.1)

  id_tree_same : (f : Field) → IsPrintedField words f → id_back new f ≡ id_back old f
  id_tree_same f h = ap tests_back (each_same (IsTest words) (id_test_back new) (id_test_back old) id_simple_same f.tests h.1)

  -- ---- conditions

  pattern_same : (p : Pattern) → IsPattern words p → pattern_text new p ≡ pattern_text old p
  pattern_same p h =
      let id = id_same p.id h.0 in
      let attr = field_same p.attr h.1 in
      let value = field_same p.value h.2 in
      λ i. codes "(" ++ ((if p.state then codes "state " else []) ++ (id i ++ (codes " ^" ++ (attr i ++ (32 ∷ (value i ++ (if p.accept then codes " +)" else codes ")")))))))

  mutual
    condition_same : (c : Condition) → IsCondition c words → condition_text c new ≡ condition_text c old
    condition_same (positive p) h = pattern_same p h
    condition_same (negated p) h = ap (λ text. 45 ∷ text) (pattern_same p h)
    condition_same (conjunctive inside) h = ap (λ text. codes "-{" ++ (text ++ codes "}")) (inside_same inside h.1)

    inside_same : (cs : Conditions) → AreConditions cs words → inside_text cs new ≡ inside_text cs old
    inside_same no_more h = refl
    inside_same (condition_and c no_more) h = condition_same c h.0
    inside_same (condition_and c (condition_and d cs)) h = ap₂ (λ text more. text ++ (32 ∷ more)) (condition_same c h.0) (inside_same (condition_and d cs) h.1)

  pub lines_same : (cs : Conditions) → AreConditions cs words → condition_lines cs new ≡ condition_lines cs old
  lines_same no_more h = refl
  lines_same (condition_and c cs) h = ap₂ (λ (x : List ℕ) (xs : List (List ℕ)). x ∷ xs) (condition_same c h.0) (lines_same cs h.1)

  group_same : (p : Pattern) → IsPattern words p → group_back new p ≡ group_back old p
  group_same p h =
      let id = id_tree_same p.id h.0 in
      let attr = field_tree_same p.attr h.1 in
      let value = field_tree_same p.value h.2 in
      λ i. record {
        state = p.state;
        field = Some (id i);
        tests = record { negative = false; attribute = attr i; path = []; values = record { value = value i; accept = p.accept } ∷ [] } ∷ [];
      }

  mutual
    part_same : (c : Condition) → IsCondition c words → part_back c new ≡ part_back c old
    part_same (positive p) h = ap (grouped false) (group_same p h)
    part_same (negated p) h = ap (grouped true) (group_same p h)
    part_same (conjunctive inside) h = inside_tree_same inside h.1

    inside_tree_same : (cs : Conditions) → AreConditions cs words → inside_back cs new ≡ inside_back cs old
    inside_tree_same no_more h = refl
    inside_tree_same (condition_and c cs) h = ap₂ (joined true) (part_same c h.0) (parts_same cs h.1)

    parts_same : (cs : Conditions) → AreConditions cs words → parts_back cs new ≡ parts_back cs old
    parts_same no_more h = refl
    parts_same (condition_and c cs) h = ap₂ part_and (part_same c h.0) (parts_same cs h.1)

  pub first_same : (cs : Conditions) → AreConditions cs words → first_back cs new ≡ first_back cs old
  first_same no_more h = refl
  first_same (condition_and c cs) h = part_same c h.0

  pub others_same : (cs : Conditions) → AreConditions cs words → others_back cs new ≡ others_back cs old
  others_same no_more h = refl
  others_same (condition_and c cs) h = parts_same cs h.1

  -- ---- actions

  mutual
    value_same : (v : ValueOf) → IsValue v words → value_text v new ≡ value_text v old
    value_same (atom_value a) h = atom_same a h
    value_same (call_value f vs) h = ap (λ text. codes "(" ++ (function_text f ++ (text ++ codes ")"))) (values_same vs h.1)

    values_same : (vs : ValuesOf) → AreValues vs words → values_text vs new ≡ values_text vs old
    values_same no_values h = refl
    values_same (value_and v vs) h = ap₂ (λ text more. 32 ∷ (text ++ more)) (value_same v h.0) (values_same vs h.1)

  mutual
    term_same : (v : ValueOf) → IsValue v words → term_back v new ≡ term_back v old
    term_same (atom_value a) h = ap simple (single_same a h)
    term_same (call_value f vs) h = ap (called f) (terms_same vs h.1)

    terms_same : (vs : ValuesOf) → AreValues vs words → terms_back vs new ≡ terms_back vs old
    terms_same no_values h = refl
    terms_same (value_and v vs) h = ap₂ term_and (term_same v h.0) (terms_same vs h.1)

  written_same : (written : List ValueOf) → AllOf (λ v. IsValue v words) written → values_text (values_of written) new ≡ values_text (values_of written) old
  written_same [] h = refl
  written_same (v ∷ written) h = ap₂ (λ text more. 32 ∷ (text ++ more)) (value_same v h.0) (written_same written h.1)

  written_tree_same : (written : List ValueOf) → AllOf (λ v. IsValue v words) written → terms_back (values_of written) new ≡ terms_back (values_of written) old
  written_tree_same [] h = refl
  written_tree_same (v ∷ written) h = ap₂ term_and (term_same v h.0) (written_tree_same written h.1)

  preference_same : (p : PreferenceOf) → IsPreference words p → preference_text new p ≡ preference_text old p
  preference_same accepts h = refl
  preference_same rejects h = refl
  preference_same requires_it h = refl
  preference_same prohibits h = refl
  preference_same is_best h = refl
  preference_same is_worst h = refl
  preference_same is_indifferent h = refl
  preference_same (is_better_than v) h = ap (λ text. codes "> " ++ text) (value_same v h)
  preference_same (is_worse_than v) h = ap (λ text. codes "< " ++ text) (value_same v h)
  preference_same (is_indifferent_to v) h = ap (λ text. codes "= " ++ text) (value_same v h)

  wish_same : (p : PreferenceOf) → IsPreference words p → wish_back new p ≡ wish_back old p
  wish_same accepts h = refl
  wish_same rejects h = refl
  wish_same requires_it h = refl
  wish_same prohibits h = refl
  wish_same is_best h = refl
  wish_same is_worst h = refl
  wish_same is_indifferent h = refl
  wish_same (is_better_than v) h = ap (λ (t : Term). comparing (record { sign = 1; referent = Some t })) (term_same v h)
  wish_same (is_worse_than v) h = ap (λ (t : Term). comparing (record { sign = 0; referent = Some t })) (term_same v h)
  wish_same (is_indifferent_to v) h = ap (λ (t : Term). comparing (record { sign = 6; referent = Some t })) (term_same v h)

  action_same : (a : ActionOf) → IsPrintedAction words a → action_text new a ≡ action_text old a
  action_same (makes (Const s) attr value p) h = absurd h.0
  action_same (makes (Var v) attr value p) h =
      let id = named v in
      let the_attr = value_same attr h.1 in
      let the_value = value_same value h.2 in
      let the_preference = preference_same p h.3 in
      λ i. codes "(" ++ ((60 ∷ (id i ++ (62 ∷ []))) ++ (codes " ^" ++ (the_attr i ++ (32 ∷ (the_value i ++ (32 ∷ (the_preference i ++ codes ")")))))))
  action_same (writes written) h = ap (λ text. codes "(write" ++ (text ++ codes ")")) (written_same written h)
  action_same halts h = refl

  action_tree_same : (a : ActionOf) → IsPrintedAction words a → action_back new a ≡ action_back old a
  action_tree_same (makes (Const s) attr value p) h = absurd h.0
  action_tree_same (makes (Var v) attr value p) h =
      let id = named v in
      let the_attr = term_same attr h.1 in
      let the_value = term_same value h.2 in
      let the_wish = wish_same p h.3 in
      λ i. making (record {
        variable = id i;
        make = record { attribute = the_attr i; path = []; item = record { value = the_value i; wishes = the_wish i ∷ [] }; items = [] };
        makes = [];
      })
  action_tree_same (writes written) h = ap writing (written_tree_same written h)
  action_tree_same halts h = refl

  pub actions_same : (actions : List ActionOf) → AllOf (IsPrintedAction words) actions → map (action_text new) actions ≡ map (action_text old) actions
  actions_same = each_same (IsPrintedAction words) (action_text new) (action_text old) action_same

  pub action_trees_same : (actions : List ActionOf) → AllOf (IsPrintedAction words) actions → map (action_back new) actions ≡ map (action_back old) actions
  action_trees_same = each_same (IsPrintedAction words) (action_back new) (action_back old) action_tree_same
