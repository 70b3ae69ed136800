use Rattle.std.proofs.Common.{◌∙◌, ◌++◌, map, ap, subst, sym}
use Rattle.std.proofs.lemmas.Result.{err_from_is_err_and}
use Rattle.defs_soar.specs.Events.{comes, goes}
use Rattle.defs_soar.specs.Resettling.{removal_events}
use Rattle.defs_soar.specs.Trimming.{with_all_removed}
use Rattle.step_report.proofs.KnownLemmas.{known_first, known_second}
use Rattle.step_report.specs.Reports.{removed_seen}
use Rattle.trace_laws.specs.Events.{AreEventsKnown}
use Rattle.wave_parts.proofs.RemovedLemmas.{known_append}
use Rattle.decision_parts.proofs.KnownLemmas.{all_removed_known}
use Rattle.decision_parts.proofs.SettledLemmas.{settles_among, settling_stops}
use Rattle.decision_parts.proofs.settling.settle.Goals as goal

pub returns-in_err-later-clause-settled : goal.returns-in_err-later-clause-settled
returns-in_err-later-clause-settled c s stands =
    let p = err_from_is_err_and c.from_residual.result c.from_residual.ensures.1 in
    rw (p.1, p.2)
    (settling_stops c.removals_apart.ensures c.resettle.new.self s (map removed_seen c.args.removed) c.in_err-later.field-0.0 (c.in_err-later.ensures.resettled s stands))

pub returns-clause-settled : goal.returns-clause-settled
returns-clause-settled c s stands =
    let settled = c.in_ok-later.field-0 in
    let all = c.in_ok-removed.ensures ∙ ap (λ later. with_all_removed (map removed_seen later) (map removed_seen c.args.removed)) c.as_slice.ensures in
    settles_among c.removals_are_nested.ensures.removed c.removals_apart.ensures c.args.parts.now c.resettle.new.self c.args.removed settled.removed c.in_ok-removed.removed settled.changes
    c.in_ok-later.ensures.removed all s stands (c.in_ok-later.ensures.resettled s stands)

pub returns-clause-known : goal.returns-clause-known
returns-clause-known c =
    let words = c.resettle.new.self.table in
    let settled = c.in_ok-later.field-0 in
    let later = map removed_seen settled.removed in
    let earlier = map removed_seen c.args.removed in
    let changes = map goes settled.changes.gone ++ map comes settled.changes.new in
    let all = c.in_ok-removed.ensures ∙ ap (λ later. with_all_removed (map removed_seen later) (map removed_seen c.args.removed)) c.as_slice.ensures in
    let before = subst (λ table. AreEventsKnown table (removal_events earlier)) (sym c.in_ok-later.ensures.left.table) c.requires.known in
    let removed = all_removed_known words later earlier (known_first words (removal_events later) changes c.in_ok-later.ensures.known) before in
    known_append words (removal_events (map removed_seen c.in_ok-removed.removed)) changes (subst (λ gone. AreEventsKnown words (removal_events gone)) (sym all) removed)
    (known_second words (removal_events later) changes c.in_ok-later.ensures.known)
