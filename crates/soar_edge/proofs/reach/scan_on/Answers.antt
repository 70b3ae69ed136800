use Rattle.std.proofs.Common.{sym, ◌∙◌, arith}
use Rattle.soar_edge.proofs.ExtentLemmas.{reach_ends}
use Rattle.soar_edge.proofs.reach.scan_on.Goals as goal

pub returns-then-is_end : goal.returns-then-is_end
returns-then-is_end c = reach_ends c.args.front.now c.bytes.scan c.args.closed c.bytes.invariant (omega arith) (omega arith) (sym c.is_end.ensures ∙ c.if-is_end.true)
