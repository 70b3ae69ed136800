use Rattle.std.proofs.Common.{subst, sym}
use Rattle.live_firings.specs.Living.{keys_of}
use Rattle.outstanding.specs.Following.{AreCounted}
use Rattle.outstanding.proofs.followed.FollowedOutstanding.rule_goes.Goals as goal

pub returns-clause-knows : goal.returns-clause-knows
returns-clause-knows g c live was = subst (λ counts. AreCounted counts (keys_of live)) (sym c.leave_rule.ensures.counts) was
