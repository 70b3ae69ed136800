use Rattle.std.proofs.Common.{◌∙◌, length, map, Ok, Err, ap, refl}
use Rattle.std.proofs.lemmas.Result.{err_from_is_err_and}
use Rattle.soar_settle.specs.declared.changes.Changes.{Changes}
use Rattle.step_report.specs.Reports.{removed_seen}
use Rattle.trace_lines.specs.declared.impasse.NewGoal.{NewGoal}
use Rattle.decision_parts.specs.Deciding.{substate_step}
use Rattle.decision_parts.specs.declared.decision.Decision.{Decision}
use Rattle.decision_parts.proofs.AnswerLemmas.{other_answer}
use Rattle.decision_parts.proofs.SubstateLemmas.{TellsGoal, makes}
use Rattle.decision_parts.proofs.selecting.make_substate.Goals as goal

pub returns-in_err-changes-clause-step : goal.returns-in_err-changes-clause-step
returns-in_err-changes-clause-step c s stands =
    let a = c.args.parts.now in
    let new = c.end_decision.new in
    let why = c.in_err-changes.field-0.0 in
    let removed = map removed_seen c.args.removed in
    let made : NewGoal = record { cycle = a.cycles; below = c.len-below.result; goal = c.in_ok-goal.goal; impasse = c.args.why } in
    let tells : TellsGoal a c.args.why made = record { cycle_is = refl; below_is = c.len-below.ensures ∙ ap length c.list.ensures.goals; impasse_is = refl } in
    let p = err_from_is_err_and c.from_residual-in_err-changes.result c.from_residual-in_err-changes.ensures.1 in
    rw (p.1, p.2)
    (other_answer Changes Decision a.settings.watch c.args.mid_line.now new.mid_line (substate_step s removed c.args.why c.args.items) new.parts c.args.out.now new.out why
    (makes Changes a c.push_goal.new.parts new.parts removed c.args.why c.args.items made c.args.mid_line.now new.mid_line c.args.out.now new.out (Err why)
    c.in_ok-goal.ensures.kept.3 tells c.in_ok-goal.ensures.pushes c.in_err-changes.ensures.step s stands))

pub returns-clause-step : goal.returns-clause-step
returns-clause-step c =
    let a = c.args.parts.now in
    let new = c.end_decision.new in
    let made : NewGoal = record { cycle = a.cycles; below = c.len-below.result; goal = c.in_ok-goal.goal; impasse = c.args.why } in
    let tells : TellsGoal a c.args.why made = record { cycle_is = refl; below_is = c.len-below.ensures ∙ ap length c.list.ensures.goals; impasse_is = refl } in
    makes Changes a c.push_goal.new.parts new.parts (map removed_seen c.args.removed) c.args.why c.args.items made c.args.mid_line.now new.mid_line c.args.out.now new.out (Ok c.in_ok-changes.changes)
    c.in_ok-goal.ensures.kept.3 tells c.in_ok-goal.ensures.pushes c.in_ok-changes.ensures.step
