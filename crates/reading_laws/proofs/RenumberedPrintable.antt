-- What can be printed can be printed with other numbers of variables too.
use Rattle.std.specs.Prelude.{map}
use Rattle.std.proofs.Common.{◌≡◌, refl, sym, ap, subst, [], ◌∷◌, List, ℕ, suc}
use Rattle.soar_sym.specs.Words.{Texts}
use Rattle.soar_rule.specs.declared.cond.Atom.{Atom}
use Rattle.soar_rule.specs.declared.cond.Atom.TheVariants.{Const, Var}
use Rattle.soar_rule.specs.declared.cond.Test.{Test}
use Rattle.soar_rule.specs.declared.cond.Test.TheVariants.{Plain, Rel, OneOf}
use Rattle.soar_rule.specs.declared.cond.Field.{Field}
use Rattle.soar_rule.specs.declared.cond.Pattern.{Pattern}
use Rattle.soar_rule.specs.Alike.{variable_with}
use Rattle.soar_rule.specs.Conditions.{Condition, positive, negated, conjunctive, Conditions, no_more, condition_and}
use Rattle.soar_rule.specs.Productions.{ValueOf, atom_value, call_value, ValuesOf, no_values, value_and, PreferenceOf, accepts, rejects, requires_it, prohibits, is_best, is_worst, is_indifferent, is_better_than, is_worse_than, is_indifferent_to, ActionOf, makes, writes, halts}
use Rattle.soar_rule.specs.Renaming.{test_with, field_with, pattern_with, condition_with, conditions_with, value_with, values_with, preference_with, action_with}
use Rattle.reading_laws.specs.Lawful.{AllOf, Takes}
use Rattle.reading_laws.specs.Printable.{IsAtom, IsAny, IsTest, IsPrintedField, IsPattern, IsSome, IsCondition, AreConditions, count_values, IsValue, AreValues, IsPreference, IsVariable, IsPrintedAction}

module _ (words : Texts) (number : ℕ → ℕ) where
  atom_printable : (a : Atom) → IsAtom words a → IsAtom words (variable_with number a)
  atom_printable (Const s) h = h
  atom_printable (Var v) h = tt

  -- ---- conditions

  test_printable : (t : Test) → IsTest words t → IsTest words (test_with (variable_with number) t)
  test_printable (Plain a) h = atom_printable a h
  test_printable (Rel r a) h = atom_printable a h
  test_printable (OneOf symbols) h = h

  each_printable : (ts : List Test) → AllOf (IsTest words) ts → AllOf (IsTest words) (map (test_with (variable_with number)) ts)
  each_printable [] h = tt
  each_printable (t ∷ ts) h = (test_printable t h.0, each_printable ts h.1)

  any_again : (ts : List Test) → IsAny ts → IsAny (map (test_with (variable_with number)) ts)
  any_again [] h = h
  any_again (t ∷ ts) h = tt

  field_printable : (f : Field) → IsPrintedField words f → IsPrintedField words (field_with (variable_with number) f)
  field_printable f h = (any_again f.tests h.0, each_printable f.tests h.1)

  pattern_printable : (p : Pattern) → IsPattern words p → IsPattern words (pattern_with (variable_with number) p)
  pattern_printable p h = (field_printable p.id h.0, field_printable p.attr h.1, field_printable p.value h.2)

  pub some_printable : (cs : Conditions) → IsSome cs → IsSome (conditions_with (variable_with number) cs)
  some_printable no_more h = h
  some_printable (condition_and c cs) h = tt

  mutual
    condition_printable : (c : Condition) → IsCondition c words → IsCondition (condition_with (variable_with number) c) words
    condition_printable (positive p) h = pattern_printable p h
    condition_printable (negated p) h = pattern_printable p h
    condition_printable (conjunctive inside) h = (some_printable inside h.0, conditions_printable inside h.1)

    pub conditions_printable : (cs : Conditions) → AreConditions cs words → AreConditions (conditions_with (variable_with number) cs) words
    conditions_printable no_more h = tt
    conditions_printable (condition_and c cs) h = (condition_printable c h.0, conditions_printable cs h.1)

  -- ---- actions

  same_count : (vs : ValuesOf) → count_values (values_with (variable_with number) vs) ≡ count_values vs
  same_count no_values = refl
  same_count (value_and v vs) = ap suc (same_count vs)

  mutual
    value_printable : (v : ValueOf) → IsValue v words → IsValue (value_with (variable_with number) v) words
    value_printable (atom_value a) h = atom_printable a h
    value_printable (call_value f vs) h = (subst (Takes f) (sym (same_count vs)) h.0, values_printable vs h.1)

    values_printable : (vs : ValuesOf) → AreValues vs words → AreValues (values_with (variable_with number) vs) words
    values_printable no_values h = tt
    values_printable (value_and v vs) h = (value_printable v h.0, values_printable vs h.1)

  preference_printable : (p : PreferenceOf) → IsPreference words p → IsPreference words (preference_with (variable_with number) p)
  preference_printable accepts h = tt
  preference_printable rejects h = tt
  preference_printable requires_it h = tt
  preference_printable prohibits h = tt
  preference_printable is_best h = tt
  preference_printable is_worst h = tt
  preference_printable is_indifferent h = tt
  preference_printable (is_better_than v) h = value_printable v h
  preference_printable (is_worse_than v) h = value_printable v h
  preference_printable (is_indifferent_to v) h = value_printable v h

  variable_again : (a : Atom) → IsVariable a → IsVariable (variable_with number a)
  variable_again (Const s) h = h
  variable_again (Var v) h = tt

  written_printable : (written : List ValueOf) → AllOf (λ v. IsValue v words) written → AllOf (λ v. IsValue v words) (map (value_with (variable_with number)) written)
  written_printable [] h = tt
  written_printable (v ∷ written) h = (value_printable v h.0, written_printable written h.1)

  action_printable : (a : ActionOf) → IsPrintedAction words a → IsPrintedAction words (action_with (variable_with number) a)
  action_printable (makes id attr value p) h = (variable_again id h.0, value_printable attr h.1, value_printable value h.2, preference_printable p h.3)
  action_printable (writes written) h = written_printable written h
  action_printable halts h = tt

  pub actions_printable : (actions : List ActionOf) → AllOf (IsPrintedAction words) actions → AllOf (IsPrintedAction words) (map (action_with (variable_with number)) actions)
  actions_printable [] h = tt
  actions_printable (a ∷ actions) h = (action_printable a h.0, actions_printable actions h.1)
