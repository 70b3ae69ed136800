use Rattle.std.proofs.Common.{ap, sym, subst, ◌∙◌}
use Rattle.soar_decide.specs.Outcomes.{view_seen}
use Rattle.decision_walk.specs.Steps.{Steps, stepped}
use Rattle.decision_walk.proofs.StepLemmas.{step_is}
use Rattle.decision_walk.proofs.walking.step.Goals as goal

pub returns : goal.returns
returns c =
    let v = view_seen c.args.view.now in
    let goals = c.args.goals.now in
    subst (λ whole. Steps v whole c.args.above goals c.take_outcome.new.goals c.take_outcome.result)
    (ap (λ found. stepped v found c.args.above goals) c.in_ok-outcome.ensures ∙ sym (step_is v c.args.above goals))
    (c.take_outcome.ensures v)
