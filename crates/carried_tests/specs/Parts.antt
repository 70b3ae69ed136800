-- Tests of steps, conditions and tests one by one. No public clause cites this.
use Rattle.std.specs.Prelude.{ℕ, List, [], Option, Some, None}
use Rattle.soar_sym.specs.declared.symbol.Sym.{Sym}
use Rattle.soar_rule.specs.declared.cond.Test.{Test}
use Rattle.soar_rule.specs.declared.cond.Test.TheVariants.{Plain, Rel, OneOf}
use Rattle.soar_rule.specs.Conditions.{Condition, positive, negated, conjunctive}
use Rattle.soar_wm.specs.declared.element.Element.{Element}
use Rattle.defs_match.specs.Testing.{Bindings, symbol_at}
use Rattle.defs_soar.specs.CarriedTests.{Carried, Placed, carried_by, occurrence, placed_by, tests_of_firing, tests_of_pattern}
use Rattle.defs_soar.specs.History.{StepOf, architecture_step, item_step, select_step, fire_step}

abbrev pub tests_of_step : StepOf → List Carried
tests_of_step (fire_step f) = tests_of_firing f
tests_of_step (architecture_step e) = []
tests_of_step (item_step e tag) = []
tests_of_step (select_step e tag) = []

-- how many elements a condition takes
abbrev pub taken_by : Condition → ℕ
taken_by (positive p) = 1
taken_by (negated p) = 0
taken_by (conjunctive inside) = 0

-- the tests of a condition with its element, where there is one
abbrev pub tests_of_condition : Bindings → Condition → Option Element → List Carried
tests_of_condition bindings (positive p) (Some e) = tests_of_pattern bindings p e
tests_of_condition bindings (positive p) None = []
tests_of_condition bindings (negated p) o = []
tests_of_condition bindings (conjunctive inside) o = []

abbrev pub tests_of_test : Bindings → Sym → Test → List Carried
tests_of_test bindings s (Rel r a) = carried_by r s (symbol_at a bindings)
tests_of_test bindings s (Plain a) = []
tests_of_test bindings s (OneOf symbols) = []

-- a test at its field, where it has one
abbrev pub placed_of : List Element → Carried → List Placed
placed_of elements t = placed_by t (occurrence elements t.field) (occurrence elements t.referent)
