use Rattle.std.proofs.Common.{subst, true}
use Rattle.live_firings.specs.Store.{Marked, MarkedOthers, match_of}
use Rattle.live_firings.proofs.PlaceLemmas.{all_unmarked}
use Rattle.live_firings.proofs.index.Index.note.Goals as goal

pub returns-in-Ok-clause-ok : goal.returns-in-Ok-clause-ok
returns-in-Ok-clause-ok c =
    let firing = c.args.firing in
    subst (λ k. Marked firing.number firing.depth k c.args.place true c.args.self.now c.put_all.new.self) c.requires c.in-Ok.ensures.ok

pub returns-in-Err-clause-err : goal.returns-in-Err-clause-err
returns-in-Err-clause-err c =
    let firing = c.args.firing in
    all_unmarked firing.number firing.depth (match_of firing) c.args.place c.args.self.now c.put_all.new.self c.forget.new.self
    (subst (λ k. MarkedOthers firing.number firing.depth k c.args.place c.args.self.now c.put_all.new.self) c.requires c.in-Err.ensures.err) c.forget.ensures.marks
