use Rattle.std.proofs.Common.{arith}
use Rattle.soar_levels.proofs.DepthLemmas.{deepens, stays_deep}
use Rattle.soar_levels.proofs.taken.deeper.Goals as goal

pub returns-then-depth-goals : goal.returns-then-depth-goals
returns-then-depth-goals c = stays_deep c.args.goals.now c.args.memory.now.elements c.args.tag c.args.depth (omega (arith, c.if-depth-goals.true))

pub returns : goal.returns
returns c = deepens c.args.goals.now c.args.memory.now.elements c.args.tag c.args.depth c.depth_of_tag.result c.max.result c.max.ensures c.depth_of_tag.ensures
