use Rattle.std.proofs.Common.{◌==◌, slice_get, ap, sym, ◌∙◌}
use Rattle.decision_walk.proofs.StepLemmas.{impasse_at_place, nothing_at_place}
use Rattle.decision_walk.proofs.stepping.has_impasse.Goals as goal

pub returns-in-Some : goal.returns-in-Some
returns-in-Some c =
    (λ i. c.place.ensures i == c.place-in-Some.ensures i)
    ∙ sym (impasse_at_place c.args.why c.args.above c.args.goals.now c.in-Some.goal.now (ap (λ goals. slice_get goals c.args.above) (sym c.list.ensures.goals) ∙ sym c.in-Some.ensures.value))

pub returns-in-None : goal.returns-in-None
returns-in-None c =
    sym (nothing_at_place c.args.why c.args.above c.args.goals.now (ap (λ goals. slice_get goals c.args.above) (sym c.list.ensures.goals) ∙ sym c.in-None.ensures.value))
