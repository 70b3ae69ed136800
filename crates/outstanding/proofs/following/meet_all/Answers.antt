use Rattle.outstanding.proofs.FollowLemmas.{meets_none, meets_on}
use Rattle.outstanding.proofs.following.meet_all.Goals as goal

pub keys-preserved : goal.keys-preserved
keys-preserved c = meets_on c.keys.yielded c.in-Some.key c.args.kept.now c.keys.kept c.meet.new.kept c.keys.invariant c.in_ok-meet.ensures

pub keys-init : goal.keys-init
keys-init c = meets_none c.args.kept.now
