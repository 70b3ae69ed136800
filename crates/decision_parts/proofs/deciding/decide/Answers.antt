use Rattle.std.proofs.Common.{◌≡◌, map, IfOk, subst}
use Rattle.defs_soar.specs.Resettling.{AgentStep}
use Rattle.decision_walk.specs.Ends.{decided_seen}
use Rattle.step_report.specs.Reports.{removed_seen}
use Rattle.wave_parts.specs.declared.settings.Settings.{Settings}
use Rattle.decision_parts.specs.Deciding.{decision_step}
use Rattle.decision_parts.specs.Stepping.{GoesStep}
use Rattle.decision_parts.proofs.DecidingLemmas.{HasWalked, decides}
use Rattle.decision_parts.proofs.deciding.decide.Goals as goal

pub returns-clause-step : goal.returns-clause-step
returns-clause-step c =
    let a = c.args.parts.now in
    let walked = c.walk_on.new.parts in
    let end = c.in_ok-end.end in
    let new = c.follow.new in
    let walk : HasWalked a walked (map removed_seen end.removed) (decided_seen end.decided) = record {
      decided_is = c.in_ok-end.ensures.decided;
      removed_are = c.in_ok-end.ensures.removed;
      stands = c.in_ok-end.ensures.stands;
    } in
    decides (λ (x : AgentStep). GoesStep a.settings.watch c.args.mid_line.now x new.parts new.mid_line c.args.out.now new.out c.follow.result) a walked (map removed_seen end.removed) (decided_seen end.decided) walk
    (λ s stands. subst (λ (settings : Settings). GoesStep settings.watch c.args.mid_line.now (decision_step s (map removed_seen end.removed) (decided_seen end.decided)) new.parts new.mid_line c.args.out.now new.out c.follow.result)
    c.in_ok-end.ensures.kept.3 (c.follow.ensures.step s stands))

pub returns-clause-limit : goal.returns-clause-limit
returns-clause-limit c =
    let a = c.args.parts.now in
    let walked = c.walk_on.new.parts in
    let end = c.in_ok-end.end in
    let walk : HasWalked a walked (map removed_seen end.removed) (decided_seen end.decided) = record {
      decided_is = c.in_ok-end.ensures.decided;
      removed_are = c.in_ok-end.ensures.removed;
      stands = c.in_ok-end.ensures.stands;
    } in
    decides (λ (x : AgentStep). IfOk c.follow.result (λ decision. decision.halted ≡ x.halted)) a walked (map removed_seen end.removed) (decided_seen end.decided) walk c.follow.ensures.limit
