use Rattle.std.proofs.Common.{reverse}
use Rattle.chunk_back.specs.Walk.{above_all, IsWalk}
use Rattle.chunk_back.proofs.walk.explaining.Given as goal

abbrev pub invariant-walk : goal.invariant-walk
invariant-walk g l = IsWalk (g.K.Keeps.kept l.kept) l.roots l.waiting (reverse l.found.items)

abbrev pub decreases-walk : goal.decreases-walk
decreases-walk g l = above_all l.waiting
