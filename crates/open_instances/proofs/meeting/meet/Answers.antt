use Rattle.std.proofs.Common.{◌∙◌, ◌+◌, ap, cond, sym}
use Rattle.std.proofs.lemmas.Result.{on_ok_weaker}
use Rattle.open_instances.specs.Keys.{alike, count_in}
use Rattle.open_instances.proofs.MeetingLemmas.{meets_noted, meets_open}
use Rattle.open_instances.proofs.meeting.meet.Goals as goal

pub returns-then-take_open : goal.returns-then-take_open
returns-then-take_open c =
    on_ok_weaker c.raise.result
    (λ raised. meets_open c.args.kept.now c.raise.new.counts c.take_open.new.free c.args.key c.take_open.ensures.taken raised (sym c.take_open.ensures.was ∙ c.if-take_open.true))
    c.raise.ensures

pub returns : goal.returns
returns c =
    let old = c.args.kept.now in
    on_ok_weaker c.add_key.result
    (λ grown. meets_noted old c.raise-2.new.counts c.take_open.new.free c.args.key c.take_open.ensures.taken
    (λ q. c.in_ok-raise.ensures q ∙ ap (λ k. cond (alike k q) (count_in old.counts q + 1) (count_in old.counts q)) c.in_ok-counted.ensures)
    c.add_key.new.keys grown)
    c.add_key.ensures
