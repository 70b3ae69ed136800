-- The symbols of a production: its name, the names of its variables, and its constants in the order of the text.
use Rattle.std.specs.Prelude.{List, [], ◌∷◌, ◌++◌, flat_map}
use Rattle.soar_sym.specs.Words.{Texts, IsKnown}
use Rattle.soar_sym.specs.declared.symbol.Sym.{Sym}
use Rattle.soar_rule.specs.declared.cond.Atom.{Atom}
use Rattle.soar_rule.specs.declared.cond.Atom.TheVariants.{Const, Var}
use Rattle.soar_rule.specs.declared.cond.Test.{Test}
use Rattle.soar_rule.specs.declared.cond.Test.TheVariants.{Plain, Rel, OneOf}
use Rattle.soar_rule.specs.declared.cond.Field.{Field}
use Rattle.soar_rule.specs.declared.cond.Pattern.{Pattern}
use Rattle.soar_rule.specs.Conditions.{Condition, positive, negated, conjunctive, Conditions, no_more, condition_and}
use Rattle.soar_rule.specs.Productions.{ValueOf, atom_value, call_value, ValuesOf, no_values, value_and, ActionOf, makes, writes, halts, ProductionOf}
use Rattle.soar_rule.specs.Variables.{referent_value}
use Rattle.std.specs.Prelude.{Option, Some, None}

abbrev pub constants_of_atom : Atom → List Sym
constants_of_atom (Const s) = s ∷ []
constants_of_atom (Var v) = []

abbrev pub constants_of_test : Test → List Sym
constants_of_test (Plain a) = constants_of_atom a
constants_of_test (Rel r a) = constants_of_atom a
constants_of_test (OneOf symbols) = symbols

abbrev pub constants_of_field : Field → List Sym
constants_of_field field = flat_map constants_of_test field.tests

abbrev pub constants_of_pattern : Pattern → List Sym
constants_of_pattern p = constants_of_field p.id ++ (constants_of_field p.attr ++ constants_of_field p.value)

abbrev mutual
  pub constants_of_condition : Condition → List Sym
  constants_of_condition (positive p) = constants_of_pattern p
  constants_of_condition (negated p) = constants_of_pattern p
  constants_of_condition (conjunctive inside) = constants_of_conditions inside

  pub constants_of_conditions : Conditions → List Sym
  constants_of_conditions no_more = []
  constants_of_conditions (condition_and c cs) = constants_of_condition c ++ constants_of_conditions cs

abbrev mutual
  pub constants_of_value : ValueOf → List Sym
  constants_of_value (atom_value a) = constants_of_atom a
  constants_of_value (call_value f arguments) = constants_of_values arguments

  pub constants_of_values : ValuesOf → List Sym
  constants_of_values no_values = []
  constants_of_values (value_and v others) = constants_of_value v ++ constants_of_values others

abbrev pub constants_of_referent : Option ValueOf → List Sym
constants_of_referent None = []
constants_of_referent (Some v) = constants_of_value v

abbrev pub constants_of_action : ActionOf → List Sym
constants_of_action (makes id attr value preference) =
    constants_of_atom id ++ (constants_of_value attr ++ (constants_of_value value ++ constants_of_referent (referent_value preference)))
constants_of_action (writes written) = flat_map constants_of_value written
constants_of_action halts = []

abbrev pub constants_of : ProductionOf → List Sym
constants_of p = constants_of_conditions p.conditions ++ flat_map constants_of_action p.actions

abbrev pub symbols_of : ProductionOf → List Sym
symbols_of p = p.name ∷ (p.vars ++ constants_of p)

-- the words among these symbols are in the table
abbrev pub AreKnown : Texts → List Sym → Type 0
AreKnown words [] = Unit {0}
AreKnown words (s ∷ symbols) = IsKnown words s × AreKnown words symbols
