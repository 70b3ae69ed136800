use Rattle.std.proofs.Common.{◌≡◌, ◌∙◌, false, map, Some, ap, sym}
use Rattle.decision_walk.specs.Ends.{decided_seen}
use Rattle.step_report.specs.Reports.{removed_seen}
use Rattle.decision_parts.specs.Deciding.{decision_step}
use Rattle.decision_parts.proofs.DecidingLemmas.{answer_of, selection_goes_on}
use Rattle.decision_parts.proofs.deciding.follow.Goals as goal

pub returns-in-Selects-clause-limit : goal.returns-in-Selects-clause-limit
returns-in-Selects-clause-limit c s stands =
    let removed = map removed_seen c.args.end.removed in
    let goes_on = ap (λ decided. (decision_step s removed (decided_seen decided)).halted) c.in-Selects.is ∙ selection_goes_on s removed (Some c.in-Selects.operator) c.in-Selects.takes_word in
    answer_of (λ decision. decision.halted ≡ false) (λ decision. decision.halted ≡ (decision_step s removed (decided_seen c.args.end.decided)).halted) c.select.result (λ decision is. is ∙ sym goes_on) c.select.ensures.limit
