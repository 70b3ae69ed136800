use Rattle.std.proofs.Common.{map, ◌∙◌}
use Rattle.soar_rule.specs.Conditions.{condition}
use Rattle.defs_soar.specs.History.{chain_seen}
use Rattle.chunk_negations.proofs.TakingLemmas.{steps_next}
use Rattle.chunk_negations.proofs.taking.take_of_steps.Goals as goal

pub steps-preserved : goal.steps-preserved
steps-preserved c =
    steps_next (chain_seen c.args.told.now.chain.now) c.args.told.now.depth (map condition c.steps.taken) (map condition c.take_of_step.new.taken) c.args.steps.now
    c.steps.step-index c.step-item.result c.steps-test.true c.step-item.is c.in_ok-take_of_step.ensures
    ∙ c.steps.invariant
