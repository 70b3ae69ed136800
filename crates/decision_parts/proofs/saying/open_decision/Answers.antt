use Rattle.std.proofs.Common.{◌∷◌, [], map, OnOk, sym, subst}
use Rattle.defs_soar.specs.Events.{begins, decision}
use Rattle.defs_soar.specs.Resettling.{removal_events}
use Rattle.step_report.proofs.KnownLemmas.{known_first}
use Rattle.step_report.specs.Reports.{removed_seen}
use Rattle.step_report.specs.Saying.{SaysEvents}
use Rattle.trace_laws.specs.Events.{AreEventsKnown}
use Rattle.decision_parts.proofs.SayingLemmas.{says_behind}
use Rattle.decision_parts.proofs.saying.open_decision.Goals as goal

pub say_removals-requires : goal.say_removals-requires
say_removals-requires c =
    subst (λ removed. AreEventsKnown c.args.table.now (removal_events (map removed_seen removed))) (sym c.as_slice.ensures) (known_first c.args.table.now _ _ c.requires)

pub returns : goal.returns
returns c =
    subst (λ removed. OnOk c.say_removals.result
    (SaysEvents c.args.watch c.args.table.now (begins decision ∷ removal_events (map removed_seen removed)) c.args.mid_line.now c.args.out.now c.say_removals.new.mid_line c.say_removals.new.out)) c.as_slice.ensures
    (says_behind c.says_in_turn.ensures c.args.watch c.args.table.now (begins decision ∷ []) (removal_events (map removed_seen c.as_slice.result.now)) c.args.mid_line.now c.begin_part.new.mid_line c.say_removals.new.mid_line
    c.args.out.now c.begin_part.new.out c.say_removals.new.out c.say_removals.result c.in_ok-begin_part.ensures c.say_removals.ensures)
