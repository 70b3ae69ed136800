use Rattle.std.proofs.Common.{◌≡◌, IfOk, slice_get, ap, sym, subst, ◌∙◌}
use Rattle.soar_decide.specs.Outcomes.{outcome_seen, view_seen}
use Rattle.decision_walk.proofs.StepLemmas.{outcome_at_place}
use Rattle.decision_walk.proofs.walking.outcome_below.Goals as goal

pub returns : goal.returns
returns c =
    let there = ap (λ goals. slice_get goals c.args.above) (sym c.list.ensures.goals) ∙ sym c.in-Some.ensures.value in
    subst (λ found. IfOk c.decide.result (λ outcome. outcome_seen outcome ≡ found))
    (sym (outcome_at_place (view_seen c.args.view.now) c.args.above c.args.goals.now c.in-Some.goal.now there)) c.decide.ensures
