-- Variables in a learned rule have numbers below their count.
use Rattle.std.proofs.Common.{◌≡◌, ℕ, Bool, true, false, nat_lt, ◌&&◌, cond, Option, Some, None, List, [], ◌∷◌, ◌++◌, length, map, flat_map, refl, sym, ap, ap₂, ◌∙◌}
use Rattle.std.specs.List.{list_all}
use Rattle.std.proofs.lemmas.List.{append-nil}
use Rattle.std.proofs.lemmas.List.Folds.{list_all-append}
use Rattle.soar_sym.specs.declared.symbol.Sym.{Sym}
use Rattle.soar_rule.specs.declared.cond.Atom.{Atom}
use Rattle.soar_rule.specs.declared.cond.Atom.TheVariants.{Const, Var}
use Rattle.soar_rule.specs.declared.cond.Field.{Field}
use Rattle.soar_rule.specs.declared.cond.Pattern.{Pattern}
use Rattle.soar_rule.specs.declared.cond.Test.{Test}
use Rattle.soar_rule.specs.declared.cond.Test.TheVariants.{Plain, Rel, OneOf}
use Rattle.soar_rule.specs.Conditions.{Condition, positive, negated, conjunctive, Conditions, no_more, condition_and}
use Rattle.soar_rule.specs.Renaming.{test_with, field_with, pattern_with, condition_with, conditions_with, value_with, preference_with, action_with}
use Rattle.soar_rule.specs.Variables.{variables_of_atom, variables_of_test, variables_of_field, variables_of_pattern, variables_of_condition, variables_of_conditions, variables_of_value, referent_value, of_referent, variables_of_action}
use Rattle.soar_rule.proofs.BelowLemmas.{all_below}
use Rattle.soar_rule.proofs.NumberingLemmas.{both}
use Rattle.defs_soar.specs.declared.preference.PrefKind.{PrefKind}
use Rattle.defs_soar.specs.declared.preference.PrefKind.TheVariants as kind
use Rattle.defs_soar.specs.declared.preference.Wish.{Wish}
use Rattle.defs_soar.specs.Architecture.{nil_word}
use Rattle.defs_soar.specs.Candidate.{action_of, as_variable, preference_of, referent_symbol, with_variables}
use Rattle.defs_soar.specs.Values.{is_identifier}
use Rattle.defs_soar.specs.Variablized.{Variablized, of_identifier, variablized_in_atom, variablized_in_test, variablized_in_field, variablized_in_condition, variablized_in_conditions, variablized_in_symbol, variablized_in_referent, variablized_in_wish}
use Rattle.chunk_forms.proofs.OrderLemmas.{has_number}

module _ (general : Bool) (order : List Variablized) where
  abbrev with_numbers : Atom → Atom
  with_numbers = with_variables general order

  abbrev below : List ℕ → Bool
  below = all_below (length order)

  abbrev numbered : List Variablized → Bool
  numbered = list_all (has_number order)

  atoms_below : (a : Atom) → below (variables_of_atom (with_numbers a)) ≡ numbered (variablized_in_atom general a)
  atoms_below (Const s) = by (general && is_identifier s)
    where
      by : (b : Bool) → below (variables_of_atom (as_variable order (Const s) (cond b (of_identifier s ∷ []) []))) ≡ numbered (cond b (of_identifier s ∷ []) [])
      by true = refl
      by false = refl
  atoms_below (Var v) = refl

  below_both : (xs ys : List ℕ) (vs ws : List Variablized) → below xs ≡ numbered vs → below ys ≡ numbered ws → below (xs ++ ys) ≡ numbered (vs ++ ws)
  below_both xs ys vs ws p q = list_all-append (λ v. nat_lt v (length order)) xs ys ∙ ap₂ (λ a b. a && b) p q ∙ sym (list_all-append (has_number order) vs ws)

  -- ---- conditions

  test_below : (t : Test) → below (variables_of_test (test_with with_numbers t)) ≡ numbered (variablized_in_test general t)
  test_below (Plain a) = ap below (append-nil (variables_of_atom (with_numbers a))) ∙ atoms_below a
  test_below (Rel r a) = atoms_below a
  test_below (OneOf symbols) = refl

  tests_below : (ts : List Test) → below (flat_map variables_of_test (map (test_with with_numbers) ts)) ≡ numbered (flat_map (variablized_in_test general) ts)
  tests_below [] = refl
  tests_below (t ∷ ts) =
      below_both (variables_of_test (test_with with_numbers t)) (flat_map variables_of_test (map (test_with with_numbers) ts)) (variablized_in_test general t) (flat_map (variablized_in_test general) ts)
      (test_below t) (tests_below ts)

  field_below : (f : Field) → below (variables_of_field (field_with with_numbers f)) ≡ numbered (variablized_in_field general f)
  field_below f = tests_below f.tests

  pattern_below : (p : Pattern) → below (variables_of_pattern (pattern_with with_numbers p))
      ≡ numbered (variablized_in_field general p.id ++ (variablized_in_field general p.attr ++ variablized_in_field general p.value))
  pattern_below p =
      below_both (variables_of_field (field_with with_numbers p.id)) (variables_of_field (field_with with_numbers p.attr) ++ variables_of_field (field_with with_numbers p.value))
      (variablized_in_field general p.id) (variablized_in_field general p.attr ++ variablized_in_field general p.value) (field_below p.id)
      (below_both (variables_of_field (field_with with_numbers p.attr)) (variables_of_field (field_with with_numbers p.value)) (variablized_in_field general p.attr) (variablized_in_field general p.value)
      (field_below p.attr) (field_below p.value))

  mutual
    condition_below : (c : Condition) → below (variables_of_condition (condition_with with_numbers c)) ≡ numbered (variablized_in_condition general c)
    condition_below (positive p) = pattern_below p
    condition_below (negated p) = pattern_below p
    condition_below (conjunctive inside) = conditions_below inside

    pub conditions_below : (cs : Conditions) → below (variables_of_conditions (conditions_with with_numbers cs)) ≡ numbered (variablized_in_conditions general cs)
    conditions_below no_more = refl
    conditions_below (condition_and c cs) =
        below_both (variables_of_condition (condition_with with_numbers c)) (variables_of_conditions (conditions_with with_numbers cs))
        (variablized_in_condition general c) (variablized_in_conditions general cs) (condition_below c) (conditions_below cs)

  -- ---- actions

  below_one : (xs ys : List ℕ) → below xs ≡ true → below ys ≡ true → below (xs ++ ys) ≡ true
  below_one xs ys p q = list_all-append (λ v. nat_lt v (length order)) xs ys ∙ ap₂ (λ a b. a && b) p q

  -- of two lists
  apart : (vs ws : List Variablized) → numbered (vs ++ ws) ≡ true → (numbered vs ≡ true) × (numbered ws ≡ true)
  apart vs ws is = both (numbered vs) (numbered ws) (sym (list_all-append (has_number order) vs ws) ∙ is)

  nil_has_none : (b : Bool) → numbered (variablized_in_symbol b nil_word) ≡ true
  nil_has_none true = refl
  nil_has_none false = refl

  referent_below : (r : Option Sym) → numbered (variablized_in_referent general r) ≡ true → below (variables_of_value (value_with with_numbers (referent_symbol r))) ≡ true
  referent_below (Some s) is = atoms_below (Const s) ∙ is
  referent_below None is = atoms_below (Const nil_word) ∙ nil_has_none general

  preference_below : (k : PrefKind) (r : Option Sym) → numbered (variablized_in_referent general r) ≡ true
      → below (of_referent variables_of_value (referent_value (preference_with with_numbers (preference_of k r)))) ≡ true
  preference_below kind.Accept r is = refl
  preference_below kind.Require r is = refl
  preference_below kind.Reject r is = refl
  preference_below kind.Prohibit r is = refl
  preference_below kind.Better r is = referent_below r is
  preference_below kind.Worse r is = referent_below r is
  preference_below kind.Best r is = refl
  preference_below kind.Worst r is = refl
  preference_below kind.Indifferent r is = refl
  preference_below kind.Numeric r is = referent_below r is
  preference_below kind.IndifferentTo r is = referent_below r is

  action_below : (w : Wish) → numbered (variablized_in_wish general w) ≡ true → below (variables_of_action (action_with with_numbers (action_of w))) ≡ true
  action_below w is =
      let first = apart (variablized_in_symbol general w.id) (variablized_in_symbol general w.attr ++ (variablized_in_symbol general w.value ++ variablized_in_referent general w.referent)) is in
      let second = apart (variablized_in_symbol general w.attr) (variablized_in_symbol general w.value ++ variablized_in_referent general w.referent) first.1 in
      let third = apart (variablized_in_symbol general w.value) (variablized_in_referent general w.referent) second.1 in
      below_one (variables_of_atom (with_numbers (Const w.id))) _ (atoms_below (Const w.id) ∙ first.0)
      (below_one (variables_of_atom (with_numbers (Const w.attr))) _ (atoms_below (Const w.attr) ∙ second.0)
      (below_one (variables_of_atom (with_numbers (Const w.value))) _ (atoms_below (Const w.value) ∙ third.0) (preference_below w.kind w.referent third.1)))

  pub actions_below : (ws : List Wish) → numbered (flat_map (variablized_in_wish general) ws) ≡ true
      → below (flat_map variables_of_action (map (λ w. action_with with_numbers (action_of w)) ws)) ≡ true
  actions_below [] is = refl
  actions_below (w ∷ ws) is =
      let each = apart (variablized_in_wish general w) (flat_map (variablized_in_wish general) ws) is in
      below_one (variables_of_action (action_with with_numbers (action_of w))) (flat_map variables_of_action (map (λ w. action_with with_numbers (action_of w)) ws))
      (action_below w each.0) (actions_below ws each.1)
