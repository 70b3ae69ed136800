use Rattle.std.proofs.Common.{◌≡◌, ◌∙◌, false, true, length, map, nat_lt, ap, sym, arith}
use Rattle.defs_soar.specs.Resettling.{AgentStep}
use Rattle.step_report.specs.Reports.{removed_seen}
use Rattle.decision_parts.specs.Deciding.{impasse_step}
use Rattle.decision_parts.proofs.DecidingLemmas.{answer_of, impasse_is, substate_goes_on}
use Rattle.decision_parts.proofs.deciding.meet.Goals as goal

pub returns-then-len-lt-MOST_GOALS-clause-limit : goal.returns-then-len-lt-MOST_GOALS-clause-limit
returns-then-len-lt-MOST_GOALS-clause-limit c s stands =
    let a = c.args.parts.now in
    let removed = map removed_seen c.args.removed in
    let count = c.len.ensures ∙ ap length c.list.ensures.goals in
    let room : nat_lt (length a.goals) 100 ≡ true = grind (arith, count, c.if-len-lt-MOST_GOALS.true) in
    let goes_on = ap (λ (x : AgentStep). x.halted) (impasse_is a removed c.args.why c.args.items true room s stands) ∙ substate_goes_on s removed c.args.why c.args.items in
    answer_of (λ decision. decision.halted ≡ false) (λ decision. decision.halted ≡ (impasse_step s removed c.args.why c.args.items).halted) c.make_substate.result (λ decision is. is ∙ sym goes_on) c.make_substate.ensures.limit
