use Rattle.std.specs.Prelude.{IsTrue}
use Rattle.soar_rule.specs.Below.{actions_below}
use Rattle.reading_tests.proofs.productions.rows.actions_of.Given as goal

abbrev pub invariant-rows : goal.invariant-rows
invariant-rows l = IsTrue (actions_below 10 l.actions)
