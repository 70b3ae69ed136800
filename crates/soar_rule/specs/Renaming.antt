-- A production with other atoms in the places of its atoms.
use Rattle.std.specs.Prelude.{map}
use Rattle.soar_rule.specs.declared.cond.Atom.{Atom}
use Rattle.soar_rule.specs.declared.cond.Test.{Test}
use Rattle.soar_rule.specs.declared.cond.Test.TheVariants.{Plain, Rel, OneOf}
use Rattle.soar_rule.specs.declared.cond.Field.{Field}
use Rattle.soar_rule.specs.declared.cond.Pattern.{Pattern}
use Rattle.soar_rule.specs.Conditions.{Condition, positive, negated, conjunctive, Conditions, no_more, condition_and}
use Rattle.soar_rule.specs.Productions.{ValueOf, atom_value, call_value, ValuesOf, no_values, value_and, PreferenceOf, accepts, rejects, requires_it, prohibits, is_best, is_worst, is_indifferent, is_better_than, is_worse_than, is_indifferent_to, ActionOf, makes, writes, halts}

abbrev pub test_with : (Atom → Atom) → Test → Test
test_with f (Plain a) = Plain (f a)
test_with f (Rel r a) = Rel r (f a)
test_with f (OneOf symbols) = OneOf symbols

abbrev pub field_with : (Atom → Atom) → Field → Field
field_with f field = record { tests = map (test_with f) field.tests }

abbrev pub pattern_with : (Atom → Atom) → Pattern → Pattern
pattern_with f p = record p { id = field_with f p.id; attr = field_with f p.attr; value = field_with f p.value }

abbrev mutual
  pub condition_with : (Atom → Atom) → Condition → Condition
  condition_with f (positive p) = positive (pattern_with f p)
  condition_with f (negated p) = negated (pattern_with f p)
  condition_with f (conjunctive inside) = conjunctive (conditions_with f inside)

  pub conditions_with : (Atom → Atom) → Conditions → Conditions
  conditions_with f no_more = no_more
  conditions_with f (condition_and c cs) = condition_and (condition_with f c) (conditions_with f cs)

abbrev mutual
  pub value_with : (Atom → Atom) → ValueOf → ValueOf
  value_with f (atom_value a) = atom_value (f a)
  value_with f (call_value function arguments) = call_value function (values_with f arguments)

  pub values_with : (Atom → Atom) → ValuesOf → ValuesOf
  values_with f no_values = no_values
  values_with f (value_and v others) = value_and (value_with f v) (values_with f others)

abbrev pub preference_with : (Atom → Atom) → PreferenceOf → PreferenceOf
preference_with f accepts = accepts
preference_with f rejects = rejects
preference_with f requires_it = requires_it
preference_with f prohibits = prohibits
preference_with f is_best = is_best
preference_with f is_worst = is_worst
preference_with f is_indifferent = is_indifferent
preference_with f (is_better_than v) = is_better_than (value_with f v)
preference_with f (is_worse_than v) = is_worse_than (value_with f v)
preference_with f (is_indifferent_to v) = is_indifferent_to (value_with f v)

abbrev pub action_with : (Atom → Atom) → ActionOf → ActionOf
action_with f (makes id attr value preference) = makes (f id) (value_with f attr) (value_with f value) (preference_with f preference)
action_with f (writes written) = writes (map (value_with f) written)
action_with f halts = halts
