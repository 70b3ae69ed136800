use Rattle.std.proofs.lemmas.Result.{on_ok_weaker}
use Rattle.outstanding.proofs.FollowLemmas.{follows}
use Rattle.outstanding.proofs.following.follow.Goals as goal

pub returns-clause-kept : goal.returns-clause-kept
returns-clause-kept c = on_ok_weaker c.lose_all.result (λ lost instances was. lost.stays instances (c.in_ok-meet_all.ensures.stays instances was)) c.lose_all.ensures

pub returns-clause-counted : goal.returns-clause-counted
returns-clause-counted c =
    let live = c.args.live.now in
    let news = c.in_ok-news.news in
    on_ok_weaker c.lose_all.result
    (λ lost. follows live.told live.list news.came news.gone c.args.kept.now c.meet_all.new.kept c.lose_all.new.kept c.in_ok-news.ensures.news c.requires.counted c.in_ok-meet_all.ensures lost)
    c.lose_all.ensures
