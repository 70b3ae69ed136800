use Rattle.std.proofs.Common.{subst, sym}
use Rattle.std.proofs.lemmas.Result.{on_ok_weaker}
use Rattle.live_firings.specs.Living.{keys_of}
use Rattle.outstanding.specs.Following.{AreCounted}
use Rattle.outstanding.proofs.followed.FollowedOutstanding.element_goes.Goals as goal

pub returns-clause-knows : goal.returns-clause-knows
returns-clause-knows g c = on_ok_weaker c.leave_element.result (λ same live was. subst (λ counts. AreCounted counts (keys_of live)) (sym same) was) c.leave_element.ensures.counts
