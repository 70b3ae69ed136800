use Rattle.std.proofs.Common.{[]}
use Rattle.node_memory.proofs.HoldLemmas.{fills}
use Rattle.node_memory.proofs.memory.filled.Goals as goal

pub returns-clause-holds : goal.returns-clause-holds
returns-clause-holds c one = c.in_ok-change.ensures.holds [] c.args.rows.now c.empty-memory.ensures.holds (fills c.args.rows.now) one
