use Rattle.std.proofs.Common.{map, ◌∙◌}
use Rattle.soar_rule.specs.Conditions.{condition}
use Rattle.defs_soar.specs.History.{chain_seen}
use Rattle.chunk_negations.proofs.TakingLemmas.{conds_next}
use Rattle.chunk_negations.proofs.taking.take_of_conds.Goals as goal

pub conds-preserved : goal.conds-preserved
conds-preserved c =
    conds_next (chain_seen c.args.told.now.chain.now) c.args.told.now.depth c.args.bindings.now (map condition c.conds.taken) (map condition c.take_of_cond.new.taken) c.args.conds.now
    c.conds.cond-index c.cond-item.result c.conds-test.true c.cond-item.is c.in_ok-take_of_cond.ensures
    ∙ c.conds.invariant
