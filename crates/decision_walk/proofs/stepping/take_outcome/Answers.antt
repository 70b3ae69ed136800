use Rattle.std.proofs.Common.{Some, ap, sym, subst, ◌∙◌}
use Rattle.defs_soar.specs.Walk.{selects_operator}
use Rattle.soar_decide.specs.Outcomes.{outcome_seen}
use Rattle.decision_walk.specs.Steps.{Steps, stepped}
use Rattle.decision_walk.proofs.StepLemmas.{selects_there}
use Rattle.decision_walk.proofs.stepping.take_outcome.Goals as goal

pub returns-in-Stays : goal.returns-in-Stays
returns-in-Stays c = λ v.
    let goals = c.args.goals.now in
    subst (λ outcome. Steps v (stepped v (outcome_seen outcome) c.args.above goals) c.args.above goals goals c.stay.result) (sym c.in-Stays.is) (c.stay.ensures v)

pub returns-in-Selects : goal.returns-in-Selects
returns-in-Selects c = λ v.
    let selection = c.in-Selects.selection in
    let takes = c.in-Selects.takes_word in
    ap (λ left. record { goals = left; decided = selects_operator (Some selection.operator) takes }) c.end_with.ensures
    ∙ selects_there v selection takes c.args.above c.args.goals.now c.requires.there
    ∙ ap (λ outcome. stepped v (outcome_seen outcome) c.args.above c.args.goals.now) (sym c.in-Selects.is)

pub returns-in-Impasse : goal.returns-in-Impasse
returns-in-Impasse c = λ v.
    let goals = c.args.goals.now in
    subst (λ outcome. Steps v (stepped v (outcome_seen outcome) c.args.above goals) c.args.above goals c.meet.new.goals c.meet.result) (sym c.in-Impasse.is) (c.meet.ensures v)
