use Rattle.std.proofs.Common.{◌<◌, length, ap, subst, refl, ◌∙◌, arith}
use Rattle.soar_decide.specs.Outcomes.{view_seen}
use Rattle.decision_walk.specs.Steps.{Steps, walked_below}
use Rattle.decision_walk.proofs.FirstLemmas.{are_first}
use Rattle.decision_walk.proofs.StepLemmas.{from_the_top}
use Rattle.decision_walk.proofs.walking.walk.Goals as goal

pub depths-init : goal.depths-init
depths-init c = record {
  there = omega (arith, c.list.ensures.stack.some);
  as_many = refl;
  same = from_the_top (view_seen c.args.view.now) c.args.goals.now;
}

pub returns-in-Some-clause-first : goal.returns-in-Some-clause-first
returns-in-Some-clause-first c =
    let v = view_seen c.args.view.now in
    let there : 0 < length c.args.goals.now = omega (arith, c.depths.invariant.there, c.depths.invariant.as_many) in
    let ended = subst (Steps v (walked_below v c.depths.above c.depths.goals) c.depths.above c.depths.goals c.step.new.goals) c.in-Some.is c.in_ok-decided.ensures in
    are_first v c.args.goals.now c.step.new.goals there (ap (λ w. w.goals) (ended ∙ c.depths.invariant.same))
