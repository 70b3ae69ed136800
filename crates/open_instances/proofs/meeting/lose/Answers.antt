use Rattle.std.proofs.Common.{◌∙◌, sym, subst}
use Rattle.std.proofs.lemmas.Result.{on_ok_weaker}
use Rattle.open_instances.specs.Meeting.{Loses}
use Rattle.open_instances.proofs.MeetingLemmas.{loses_gone, loses_noted, loses_one}
use Rattle.open_instances.proofs.meeting.lose.Goals as goal
use Rattle.open_instances.proofs.meeting.lose.Goals.{then-lower-via-then-lower, then-lower-via-else-lower+then-take_gone}

pub returns-then-lower : goal.returns-then-lower
returns-then-lower c =
    let old = c.args.kept.now in
    let key = c.args.key in
    elim c.then-lower.branch [
      | then-lower-via-then-lower w ↦ subst (Loses key old) (sym w.kept-is) (loses_one old c.lower.new.counts key c.lower.ensures.lowered (sym c.lower.ensures.left ∙ w.if-lower.true))
      | then-lower-via-else-lower+then-take_gone w ↦
          subst (Loses key old) (sym w.kept-is)
          (loses_gone old c.lower.new.counts key c.lower.ensures.lowered w.take_gone.new.gone w.take_gone.ensures.taken (sym c.lower.ensures.left ∙ w.if-lower.false) (sym w.take_gone.ensures.was ∙ w.if-take_gone.true))
    ]

pub returns : goal.returns
returns c =
    on_ok_weaker c.add_key.result
    (λ grown. loses_noted c.args.kept.now c.lower.new.counts c.args.key c.lower.ensures.lowered c.take_gone.new.gone c.take_gone.ensures.taken c.add_key.new.keys grown)
    c.add_key.ensures
