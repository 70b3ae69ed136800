use Rattle.node_memory.proofs.MemoryLemmas.{added_step, added_all}
use Rattle.node_memory.proofs.memory.add_keys.Goals as goal

pub all-preserved : goal.all-preserved
all-preserved c k = added_step c.args.all.now c.args.row.now c.all.joined-index _ c.all.index c.add_key.new.index c.args.index.now k c.all-test.true (c.all.invariant k) (c.in_ok-add_key.ensures k)

pub returns : goal.returns
returns c k = added_all c.args.all.now c.args.row.now c.all.joined-index c.all.index c.args.index.now k c.all-test.false (c.all.invariant k)
