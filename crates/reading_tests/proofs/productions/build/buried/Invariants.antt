use Rattle.std.specs.Prelude.{IsTrue}
use Rattle.soar_rule.specs.Below.{cond_below}
use Rattle.reading_tests.proofs.productions.build.buried.Given as goal

abbrev pub invariant-negations : goal.invariant-negations
invariant-negations l = IsTrue (cond_below 10 l.cond)
