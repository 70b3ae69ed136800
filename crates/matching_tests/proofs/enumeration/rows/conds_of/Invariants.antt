use Rattle.std.specs.Prelude.{IsTrue}
use Rattle.soar_rule.specs.Below.{conds_below}
use Rattle.matching_tests.proofs.enumeration.rows.conds_of.Given as goal

abbrev pub invariant-rows : goal.invariant-rows
invariant-rows l = IsTrue (conds_below 10 l.conds)
