use Rattle.outstanding.specs.Following.{MeetsAll}
use Rattle.outstanding.proofs.following.meet_all.Given as goal

abbrev pub invariant-keys : goal.invariant-keys
invariant-keys l = MeetsAll l.yielded l.initial.kept l.kept
