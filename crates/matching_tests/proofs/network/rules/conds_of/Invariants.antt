use Rattle.std.proofs.Common.{IsTrue}
use Rattle.soar_rule.specs.Below.{conds_below}
use Rattle.matching_tests.proofs.network.rules.conds_of.Given as goal

abbrev pub invariant-rows : goal.invariant-rows
invariant-rows l = (goal.iterator-rows).can_next l.row-iterator × (goal.iterator-rows).is_finite l.row-iterator × IsTrue (conds_below 10 l.conds)
