use Rattle.std.proofs.Common.{map}
use Rattle.step_report.specs.Reports.{removed_seen}
use Rattle.decision_parts.proofs.SubstateLemmas.{halts_so}
use Rattle.decision_parts.proofs.selecting.halt_at_limit.Goals as goal

pub returns-clause-step : goal.returns-clause-step
returns-clause-step c =
    halts_so c.args.parts.now.settings.watch c.args.parts.now c.end_decision.new.parts (map removed_seen c.args.removed) c.args.mid_line.now c.end_decision.new.mid_line c.args.out.now c.end_decision.new.out
    c.in_ok-changes.ensures.step
