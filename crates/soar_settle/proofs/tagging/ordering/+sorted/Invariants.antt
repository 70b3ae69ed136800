use Rattle.std.proofs.Common.{length}
use Rattle.soar_settle.proofs.tagging.ordering.+sorted.Given as goal

abbrev pub decreases-sorted : goal.decreases-sorted
decreases-sorted l = length l.triples.now
