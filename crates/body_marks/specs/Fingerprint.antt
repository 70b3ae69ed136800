-- A number for the body of a production: its shape and its constants, in the order of the text. Variables count alike.
--
-- How a test compares, functions, kinds of preferences and the support that is asked do not count (this engine's).
use Rattle.std.specs.Prelude.{ℕ, ◌+◌, ◌*◌, ◌%◌, ◌^◌, Bool, true, false, List, [], ◌∷◌, Option, Some, None}
use Rattle.std.specs.Int.{cast_unsigned, w64}
use Rattle.soar_sym.specs.declared.symbol.Sym.{Sym}
use Rattle.soar_sym.specs.declared.symbol.Sym.TheVariants.{Ident, Word, Int}
use Rattle.soar_rule.specs.declared.cond.Atom.{Atom}
use Rattle.soar_rule.specs.declared.cond.Atom.TheVariants.{Const, Var}
use Rattle.soar_rule.specs.declared.cond.Test.{Test}
use Rattle.soar_rule.specs.declared.cond.Test.TheVariants.{Plain, Rel, OneOf}
use Rattle.soar_rule.specs.declared.cond.Field.{Field}
use Rattle.soar_rule.specs.declared.cond.Pattern.{Pattern}
use Rattle.soar_rule.specs.Conditions.{Condition, positive, negated, conjunctive, Conditions, no_more, condition_and}
use Rattle.soar_rule.specs.Productions.{ValueOf, atom_value, call_value, ValuesOf, no_values, value_and, values_of, ActionOf, makes, writes, halts, ProductionOf}
use Rattle.soar_rule.specs.Variables.{referent_value}

-- the number n behind a mark: a step of a linear congruential generator (Knuth, The Art of Computer Programming, 3.3.4)
unfoldable pub after_number : ℕ → ℕ → ℕ
after_number n mark = (mark * 6364136223846793005 % 2 ^ 64 + n) % 2 ^ 64

-- one after the other
abbrev pub after_each : {A : Type 0} → (A → ℕ → ℕ) → List A → ℕ → ℕ
after_each after [] mark = mark
after_each after (x ∷ xs) mark = after_each after xs (after x mark)

-- ---- symbols

abbrev pub after_symbol : Sym → ℕ → ℕ
after_symbol (Ident letter number) mark = after_number number (after_number letter (after_number 1 mark))
after_symbol (Word word) mark = after_number word (after_number 2 mark)
after_symbol (Int value) mark = after_number (cast_unsigned w64 value) (after_number 3 mark)

abbrev pub after_atom : Atom → ℕ → ℕ
after_atom (Const s) mark = after_symbol s mark
after_atom (Var v) mark = after_number 0 mark

-- ---- conditions

abbrev pub after_test : Test → ℕ → ℕ
after_test (Plain a) mark = after_atom a mark
after_test (Rel r a) mark = after_atom a (after_number 4 mark)
after_test (OneOf symbols) mark = after_each after_symbol symbols (after_number 5 mark)

abbrev pub after_field : Field → ℕ → ℕ
after_field field mark = after_each after_test field.tests (after_number 6 mark)

abbrev pub after_flag : Bool → ℕ → ℕ
after_flag true mark = after_number 1 mark
after_flag false mark = after_number 0 mark

abbrev pub after_pattern : Pattern → ℕ → ℕ
after_pattern p mark = after_flag p.accept (after_field p.value (after_field p.attr (after_field p.id (after_flag p.state mark))))

abbrev mutual
  pub after_condition : Condition → ℕ → ℕ
  after_condition (positive p) mark = after_pattern p (after_number 7 mark)
  after_condition (negated p) mark = after_pattern p (after_number 8 mark)
  after_condition (conjunctive inside) mark = after_conditions inside (after_number 9 mark)

  pub after_conditions : Conditions → ℕ → ℕ
  after_conditions no_more mark = mark
  after_conditions (condition_and c cs) mark = after_conditions cs (after_condition c mark)

-- ---- actions

abbrev mutual
  pub after_value : ValueOf → ℕ → ℕ
  after_value (atom_value a) mark = after_atom a mark
  after_value (call_value f arguments) mark = after_values arguments (after_number 10 mark)

  pub after_values : ValuesOf → ℕ → ℕ
  after_values no_values mark = mark
  after_values (value_and v others) mark = after_values others (after_value v mark)

abbrev pub after_referent : Option ValueOf → ℕ → ℕ
after_referent None mark = mark
after_referent (Some v) mark = after_value v mark

abbrev pub after_action : ActionOf → ℕ → ℕ
after_action (makes id attr value p) mark = after_referent (referent_value p) (after_value value (after_value attr (after_atom id (after_number 11 mark))))
after_action (writes written) mark = after_values (values_of written) (after_number 12 mark)
after_action halts mark = after_number 13 mark

-- ---- the whole

unfoldable pub fingerprint : ProductionOf → ℕ
fingerprint p = after_each after_action p.actions (after_conditions p.conditions 0)
