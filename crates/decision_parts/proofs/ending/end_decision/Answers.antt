use Rattle.std.proofs.Common.{◌∷◌, [], map, subst}
use Rattle.defs_soar.specs.Decision.{with_decision}
use Rattle.step_report.specs.Reports.{removed_seen}
use Rattle.wave_parts.specs.declared.settings.Settings.{Settings}
use Rattle.decision_parts.specs.Deciding.{settled_from}
use Rattle.decision_parts.specs.Saying.{line_event}
use Rattle.decision_parts.specs.Stepping.{WentStep}
use Rattle.decision_parts.proofs.EndingLemmas.{ends_so, settled_goes_on}
use Rattle.decision_parts.proofs.ending.end_decision.Goals as goal

pub returns-clause-step : goal.returns-clause-step
returns-clause-step c s stands =
    let new = c.settle.new.parts in
    let x = settled_from s (map removed_seen c.args.removed) in
    let said = line_event c.args.line in
    subst (λ (settings : Settings). WentStep settings.watch c.args.mid_line.now (with_decision (said ∷ []) x) new c.say_decision.new.mid_line c.args.out.now c.say_decision.new.out) c.in_ok-settled.ensures.left.settings
    (ends_so new.settings.watch c.args.mid_line.now c.say_decision.new.mid_line new c.in_ok-settled.settled said c.args.out.now c.say_decision.new.out x (settled_goes_on s (map removed_seen c.args.removed))
    (c.in_ok-settled.ensures.settled s stands) c.in_ok-say_decision.ensures)
