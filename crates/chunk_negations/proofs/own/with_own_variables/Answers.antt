use Rattle.std.proofs.Common.{◌∙◌, map}
use Rattle.soar_rule.specs.Conditions.{condition}
use Rattle.chunk_negations.proofs.OwnLemmas.{own_next}
use Rattle.chunk_negations.proofs.own.with_own_variables.Goals as goal

pub negations-preserved : goal.negations-preserved
negations-preserved c =
    own_next (map condition c.negations.others) (map condition c.add_own.new.others) c.args.negations.now c.negations.negation-index c.negations.first c.in_ok-first.first
    c.negation-item.result c.negations-test.true c.negation-item.is c.in_ok-first.ensures.added c.in_ok-first.ensures.next
    ∙ c.negations.invariant
