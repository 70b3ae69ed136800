use Rattle.outstanding.proofs.followed.FollowedOutstanding.outstanding.Goals as goal

pub returns-clause-unmatched : goal.returns-clause-unmatched
returns-clause-unmatched g c = rw (← c.self.view_is) c.ask-answer.ensures.unmatched
