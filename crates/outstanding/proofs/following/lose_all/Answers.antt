use Rattle.outstanding.proofs.FollowLemmas.{loses_none, loses_on}
use Rattle.outstanding.proofs.following.lose_all.Goals as goal

pub keys-preserved : goal.keys-preserved
keys-preserved c = loses_on c.keys.yielded c.in-Some.key c.args.kept.now c.keys.kept c.lose.new.kept c.keys.invariant c.in_ok-lose.ensures

pub keys-init : goal.keys-init
keys-init c = loses_none c.args.kept.now
