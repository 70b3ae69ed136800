use Rattle.std.proofs.Common.{◌≡◌, suc, ◌+◌, ◌-◌, drop, None, ap, sym, subst, ◌∙◌, arith}
use Rattle.defs_soar.specs.Walk.{has_impasse, meets}
use Rattle.soar_decide.specs.Outcomes as outcomes
use Rattle.soar_goals.specs.Stack.{with_change, with_items, with_selected}
use Rattle.decision_walk.specs.Steps.{GoesOn, stepped}
use Rattle.decision_walk.proofs.StepLemmas.{is_there, length_changed, meets_on, meets_there, met}
use Rattle.decision_walk.proofs.stepping.meet.Goals as goal

pub renew-requires-clause-there : goal.renew-requires-clause-there
renew-requires-clause-there c =
    let goals = c.args.goals.now in
    let next : c.args.above + 1 ≡ suc c.args.above = omega (arith) in
    let there = is_there c.args.why c.args.above goals (ap (λ n. has_impasse c.args.why (drop n goals)) (sym next) ∙ sym c.has_impasse.ensures ∙ c.if-has_impasse.true) in
    rw c.select.ensures.goals (omega (arith, there, length_changed (c.args.above + 1 - 1) (with_selected None) goals))

pub returns-then-has_impasse : goal.returns-then-has_impasse
returns-then-has_impasse c = λ v.
    let goals = c.args.goals.now in
    let here : c.args.above + 1 - 1 ≡ c.args.above = omega (arith) in
    let next : c.args.above + 2 - 1 ≡ suc c.args.above = omega (arith) in
    let below : c.args.above + 1 ≡ suc c.args.above = omega (arith) in
    let new_is : c.renew.new.self ≡ met c.args.above c.args.items goals =
    c.renew.ensures.goals ∙ ap (λ n. with_change n (with_items c.args.items) c.select.new.self) next
    ∙ ap (with_change (suc c.args.above) (with_items c.args.items)) (c.select.ensures.goals ∙ ap (λ n. with_change n (with_selected None) goals) here) in
    subst (GoesOn v (stepped v (outcomes.meets c.args.why c.args.items) c.args.above goals) c.args.above goals) (sym new_is)
    (meets_on v c.args.why c.args.items c.args.above goals (ap (λ n. has_impasse c.args.why (drop n goals)) (sym below) ∙ sym c.has_impasse.ensures ∙ c.if-has_impasse.true))

pub returns : goal.returns
returns c = λ v.
    let goals = c.args.goals.now in
    let below : c.args.above + 1 ≡ suc c.args.above = omega (arith) in
    ap (λ left. record { goals = left; decided = meets c.args.why c.args.items }) c.end_with.ensures
    ∙ meets_there v c.args.why c.args.items c.args.above goals c.requires.there
    (ap (λ n. has_impasse c.args.why (drop n goals)) (sym below) ∙ sym c.has_impasse.ensures ∙ c.if-has_impasse.false)
