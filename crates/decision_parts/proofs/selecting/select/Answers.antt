use Rattle.std.proofs.Common.{◌≡◌, ◌∙◌, ◌-◌, length, map, Some, Err, ap, arith, refl}
use Rattle.std.proofs.lemmas.Result.{err_from_is_err_and}
use Rattle.defs_soar.specs.Resettling.{AgentStep}
use Rattle.soar_settle.specs.declared.changes.Changes.{Changes}
use Rattle.step_report.specs.Reports.{removed_seen}
use Rattle.trace_lines.specs.declared.selection.Selected.{Selected}
use Rattle.decision_parts.specs.Deciding.{selection_step}
use Rattle.decision_parts.specs.Stepping.{GoesStep, WentStep}
use Rattle.decision_parts.specs.declared.decision.Decision.{Decision}
use Rattle.decision_parts.proofs.AnswerLemmas.{other_answer}
use Rattle.decision_parts.proofs.OperatorLemmas.{values_known}
use Rattle.decision_parts.proofs.SelectedLemmas.{TellsSelection, selects_so}
use Rattle.decision_parts.proofs.selecting.select.Goals as goal

pub operator_name-requires : goal.operator_name-requires
operator_name-requires c = values_known c.args.parts.now.table c.args.parts.now.memory.elements c.requires.sound.elements_known

pub returns-in_err-changes-clause-step : goal.returns-in_err-changes-clause-step
returns-in_err-changes-clause-step c s stands =
    let a = c.args.parts.now in
    let new = c.end_decision.new in
    let why = c.in_err-changes.field-0.0 in
    let removed = map removed_seen c.args.removed in
    let selected : Selected = record { cycle = a.cycles; below = c.len.result - 1; operator = c.args.operator; name = c.in_ok-name.name } in
    let count : c.len.result ≡ length a.goals = c.len.ensures ∙ ap length c.list.ensures.goals in
    let tells : TellsSelection a selected = record { cycle_is = refl; below_is = omega (arith, count, c.requires.sound.goals_some); name_is = c.in_ok-name.ensures.name } in
    let p = err_from_is_err_and c.from_residual-in_err-changes.result c.from_residual-in_err-changes.ensures.1 in
    rw (p.1, p.2)
    (other_answer Changes Decision a.settings.watch c.args.mid_line.now new.mid_line (selection_step s removed (Some c.args.operator) c.args.takes_word) new.parts c.args.out.now new.out why
    (selects_so (λ (x : AgentStep). GoesStep {T = Changes} a.settings.watch c.args.mid_line.now x new.parts new.mid_line c.args.out.now new.out (Err why)) a c.drop_word.new.random selected c.args.takes_word removed
    c.drop_word.ensures tells c.in_err-changes.ensures.step s stands))

pub returns-clause-step : goal.returns-clause-step
returns-clause-step c =
    let a = c.args.parts.now in
    let new = c.end_decision.new in
    let selected : Selected = record { cycle = a.cycles; below = c.len.result - 1; operator = c.args.operator; name = c.in_ok-name.name } in
    let count : c.len.result ≡ length a.goals = c.len.ensures ∙ ap length c.list.ensures.goals in
    let tells : TellsSelection a selected = record { cycle_is = refl; below_is = omega (arith, count, c.requires.sound.goals_some); name_is = c.in_ok-name.ensures.name } in
    selects_so (λ (x : AgentStep). WentStep a.settings.watch c.args.mid_line.now x new.parts new.mid_line c.args.out.now new.out) a c.drop_word.new.random selected c.args.takes_word (map removed_seen c.args.removed)
    c.drop_word.ensures tells c.in_ok-changes.ensures.step
