use Rattle.outstanding.specs.Following.{LosesAll}
use Rattle.outstanding.proofs.following.lose_all.Given as goal

abbrev pub invariant-keys : goal.invariant-keys
invariant-keys l = LosesAll l.yielded l.initial.kept l.kept
