-- The variables of conditions and actions, by their numbers, in the order of the text.
use Rattle.std.specs.Prelude.{ℕ, Bool, false, ◌||◌, ◌==◌, List, [], ◌∷◌, ◌++◌, flat_map, Option, Some, None, if◌then◌else◌}
use Rattle.soar_rule.specs.declared.cond.Atom.{Atom}
use Rattle.soar_rule.specs.declared.cond.Atom.TheVariants.{Const, Var}
use Rattle.soar_rule.specs.declared.cond.Test.{Test}
use Rattle.soar_rule.specs.declared.cond.Test.TheVariants.{Plain, Rel, OneOf}
use Rattle.soar_rule.specs.declared.cond.Field.{Field}
use Rattle.soar_rule.specs.declared.cond.Pattern.{Pattern}
use Rattle.soar_rule.specs.Conditions.{Condition, positive, negated, conjunctive, Conditions, no_more, condition_and}
use Rattle.soar_rule.specs.Productions.{ValueOf, atom_value, call_value, ValuesOf, no_values, value_and, PreferenceOf, accepts, rejects, requires_it, prohibits, is_best, is_worst, is_indifferent, is_better_than, is_worse_than, is_indifferent_to, ActionOf, makes, writes, halts}

abbrev pub is_among : List ℕ → ℕ → Bool
is_among [] v = false
is_among (w ∷ ws) v = (v == w) || is_among ws v

abbrev pub variables_of_atom : Atom → List ℕ
variables_of_atom (Const s) = []
variables_of_atom (Var v) = v ∷ []

-- ---- fields

abbrev pub plain_in_test : Test → List ℕ
plain_in_test (Plain a) = variables_of_atom a
plain_in_test (Rel r a) = []
plain_in_test (OneOf symbols) = []

abbrev pub related_in_test : Test → List ℕ
related_in_test (Plain a) = []
related_in_test (Rel r a) = variables_of_atom a
related_in_test (OneOf symbols) = []

-- the variables that a field binds or compares by plain tests, and those of its relations
abbrev pub plain_in : Field → List ℕ
plain_in field = flat_map plain_in_test field.tests

abbrev pub related_in : Field → List ℕ
related_in field = flat_map related_in_test field.tests

abbrev pub variables_of_test : Test → List ℕ
variables_of_test t = plain_in_test t ++ related_in_test t

abbrev pub variables_of_field : Field → List ℕ
variables_of_field field = flat_map variables_of_test field.tests

-- ---- conditions

abbrev pub plain_of_pattern : Pattern → List ℕ
plain_of_pattern p = plain_in p.id ++ (plain_in p.attr ++ plain_in p.value)

abbrev pub variables_of_pattern : Pattern → List ℕ
variables_of_pattern p = variables_of_field p.id ++ (variables_of_field p.attr ++ variables_of_field p.value)

abbrev mutual
  pub variables_of_condition : Condition → List ℕ
  variables_of_condition (positive p) = variables_of_pattern p
  variables_of_condition (negated p) = variables_of_pattern p
  variables_of_condition (conjunctive inside) = variables_of_conditions inside

  pub variables_of_conditions : Conditions → List ℕ
  variables_of_conditions no_more = []
  variables_of_conditions (condition_and c cs) = variables_of_condition c ++ variables_of_conditions cs

abbrev pub bound_by : Condition → List ℕ
bound_by (positive p) = plain_of_pattern p
bound_by (negated p) = []
bound_by (conjunctive inside) = []

-- the variables that are plain in a positive condition of the list, outside its negations
abbrev pub plain_outside : Conditions → List ℕ
plain_outside no_more = []
plain_outside (condition_and c cs) = bound_by c ++ plain_outside cs

-- these variables, each where it stands first
abbrev pub with_each : List ℕ → List ℕ → List ℕ
with_each seen [] = seen
with_each seen (v ∷ vs) = with_each (if is_among seen v then seen else seen ++ v ∷ []) vs

-- the variables that the conditions bind, in the order in which a match binds them
abbrev pub bound_variables : Conditions → List ℕ
bound_variables cs = with_each [] (plain_outside cs)

-- ---- actions

abbrev mutual
  pub variables_of_value : ValueOf → List ℕ
  variables_of_value (atom_value a) = variables_of_atom a
  variables_of_value (call_value f values) = variables_of_values values

  pub variables_of_values : ValuesOf → List ℕ
  variables_of_values no_values = []
  variables_of_values (value_and v values) = variables_of_value v ++ variables_of_values values

abbrev pub referent_value : PreferenceOf → Option ValueOf
referent_value (is_better_than v) = Some v
referent_value (is_worse_than v) = Some v
referent_value (is_indifferent_to v) = Some v
referent_value accepts = None
referent_value rejects = None
referent_value requires_it = None
referent_value prohibits = None
referent_value is_best = None
referent_value is_worst = None
referent_value is_indifferent = None

abbrev pub of_referent : (ValueOf → List ℕ) → Option ValueOf → List ℕ
of_referent f None = []
of_referent f (Some v) = f v

abbrev pub variables_of_action : ActionOf → List ℕ
variables_of_action (makes id attr value preference) =
    variables_of_atom id ++ (variables_of_value attr ++ (variables_of_value value ++ of_referent variables_of_value (referent_value preference)))
variables_of_action (writes values) = flat_map variables_of_value values
variables_of_action halts = []
