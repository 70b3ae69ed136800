use Rattle.soar_settle.proofs.MergeLemmas.{sorting_is_order}
use Rattle.soar_settle.proofs.tagging.ordering.in_order.Goals as goal

pub returns : goal.returns
returns c = sorting_is_order c.args.table.now c.law.ensures.table c.args.triples.now c.in_ok-ordered.ordered c.in_ok-ordered.ensures c.requires
