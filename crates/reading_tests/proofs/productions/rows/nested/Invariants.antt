use Rattle.std.specs.Prelude.{IsTrue}
use Rattle.soar_rule.specs.Below.{value_below}
use Rattle.reading_tests.proofs.productions.rows.nested.Given as goal

abbrev pub invariant-calls : goal.invariant-calls
invariant-calls l = IsTrue (value_below 10 l.value)
