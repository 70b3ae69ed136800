use Rattle.std.proofs.Common.{arith}
use Rattle.open_instances.proofs.CountLemmas.{raised}
use Rattle.open_instances.proofs.counts.raise.Goals as goal

pub returns : goal.returns
returns c = raised c.args.counts.now c.insert.new.self c.args.key c.in-Some.count (omega (arith, c.in-Some.ensures, c.count_of.ensures)) c.in_ok-insert.ensures.updates.0
