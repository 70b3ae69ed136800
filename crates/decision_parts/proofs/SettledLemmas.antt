-- What settling leaves and tells where goals went before.
use Rattle.std.proofs.Common.{◌≡◌, ◌∙◌, suc, List, ◌++◌, drop, length, map, Err, sym, ap, subst}
use Rattle.defs_soar.specs.declared.goal.Goal.{Goal}
use Rattle.defs_soar.specs.Agents.{Agent}
use Rattle.defs_soar.specs.Events.{comes, goes}
use Rattle.defs_soar.specs.Limits.{first_passed}
use Rattle.defs_soar.specs.Resettling.{removal_events}
use Rattle.defs_soar.specs.Trimming.{RemovedGoal, at_depths, with_all_removed}
use Rattle.removal_laws.specs.Apart.{RemovalsApart}
use Rattle.removal_laws.specs.Nested.{RemovalsAreNested}
use Rattle.soar_settle.specs.declared.changes.Changes.{Changes}
use Rattle.soar_settle.specs.declared.stop.Stop.{Stop}
use Rattle.soar_settle.specs.declared.stop.Stop.TheVariants as stop
use Rattle.step_report.specs.Reports.{removed_seen}
use Rattle.step_report.specs.declared.settled.Removed.{Removed}
use Rattle.step_report.specs.declared.settled.Settled.{Settled}
use Rattle.wave_parts.specs.Resettles.{IsResettled, Resettles, resettled_now}
use Rattle.wave_parts.specs.Stands.{Stands}
use Rattle.wave_parts.specs.declared.parts.Parts.{Parts as PartsKept}
use Rattle.decision_parts.specs.Deciding.{settled_from}
use Rattle.decision_parts.specs.Settling.{SettlesFrom}
use Rattle.decision_parts.proofs.RemovalLemmas.{events_from, same_agent, same_totals}

abbrev settled_with : List Removed → Changes → Settled
settled_with removed changes = record { removed = removed; changes = changes }

-- the goals that settling removed are the last of those that were there, with their depths
abbrev pub AreLast : List Goal → List Goal → List Removed → Type 0
AreLast old new removed = map removed_seen removed ≡ at_depths (suc (length new)) (drop (length new) old)

pub settles_among : RemovalsAreNested → RemovalsApart → (old new : PartsKept) (removed later all : List Removed) (changes : Changes) → AreLast old.goals new.goals later
    → map removed_seen all ≡ with_all_removed (map removed_seen later) (map removed_seen removed)
    → (s : Agent) → Stands old s → IsResettled new (settled_with later changes) (resettled_now s) → IsResettled new (settled_with all changes) (settled_from s (map removed_seen removed))
settles_among nested apart old new removed later all changes last all_are s stands settled =
    let before = map removed_seen removed in
    let lost : map removed_seen later ≡ at_depths (suc (length (resettled_now s).agent.holding.goals)) (drop (length (resettled_now s).agent.holding.goals) s.holding.goals) =
    last ∙ (λ k. at_depths (suc (length (settled.stands.goals k))) (drop (length (settled.stands.goals k)) (stands.goals k))) in
    record {
      stands = subst (Stands new) (sym (same_agent apart s before)) settled.stands;
      within = ap first_passed (same_totals apart s before) ∙ settled.within;
      events_are = ap (λ (gs : List RemovedGoal). removal_events gs ++ (map goes changes.gone ++ map comes changes.new)) all_are ∙ events_from nested apart s before (map removed_seen later) changes.gone changes.new lost settled.events_are;
    }

pub settling_stops : RemovalsApart → (new : PartsKept) (s : Agent) (removed : List RemovedGoal) (why : Stop) → Resettles new s (Err why) → SettlesFrom new s removed (Err why)
settling_stops apart new s removed (stop.Limit limit) h = ap first_passed (same_totals apart s removed) ∙ h
settling_stops apart new s removed stop.NoMemory h = tt
