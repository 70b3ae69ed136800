-- Steps: in which nothing halts, that settle, and whose events were said.
use Rattle.std.proofs.Common.{◌≡◌, ◌∙◌, ℕ, ◌||◌, Bool, true, false, List, [], ◌++◌, None, Result, Ok, Err, refl, sym, ap, subst}
use Rattle.soar_sym.specs.Words.{Texts}
use Rattle.defs_soar.specs.Agents.{Agent}
use Rattle.defs_soar.specs.Events.{Event}
use Rattle.defs_soar.specs.Limits.{first_passed}
use Rattle.defs_soar.specs.Phases.{halting}
use Rattle.defs_soar.specs.Resettling.{AgentStep, resettled}
use Rattle.defs_soar.specs.Trace.{Written, pieces_of, rendered}
use Rattle.soar_settle.specs.declared.stop.Stop.{Stop}
use Rattle.soar_settle.specs.declared.stop.Stop.TheVariants as stop
use Rattle.step_report.specs.Reports.{settled_events}
use Rattle.step_report.specs.Saying.{SaysEvents}
use Rattle.step_report.specs.declared.settled.Settled.{Settled}
use Rattle.decision_parts.specs.Stepping.{GoesStep, WentStep}
use Rattle.decision_parts.specs.declared.decision.Decision.{Decision}
use Rattle.decision_parts.specs.Resettles.{Resettles, resettled_now}
use Rattle.decision_parts.specs.Seen.{Stepped}
use Rattle.decision_parts.specs.Stands.{Stands}
use Rattle.decision_parts.specs.Parts.{Parts as PartsKept}
use Rattle.cycle_parts.specs.Settling.{Settles}

-- ---- nothing halts

or_false : (b : Bool) → b ≡ (b || false)
or_false true = refl
or_false false = refl

halts_not : (s : AgentStep) → s.halted ≡ false → s.agent ≡ halting s
halts_not s h =
    ap (λ (b : Bool). record s.agent { halted = b }) (or_false s.agent.halted) ∙ ap (λ (b : Bool). record s.agent { halted = s.agent.halted || b }) (sym h)

-- the state afterwards, and no limit
pub stepped_at : (new : PartsKept) (s : AgentStep) → s.halted ≡ false → Stands new s.agent → first_passed s.totals ≡ None → Stepped new s
stepped_at new s h stands within = record { stands = subst (Stands new) (halts_not s h) stands; within = within }

-- ---- settling

pub settles_now : (new : PartsKept) (s : Agent) (result : Result Settled Stop) → Resettles new s result → Settles [] (resettled_now s) new result
unfolding resettled
settles_now new s (Ok settled) h = record { stepped = stepped_at new (resettled_now s) refl h.stands h.within; events_are = h.events_are }
settles_now new s (Err (stop.Limit limit)) h = h
settles_now new s (Err stop.NoMemory) h = tt

-- ---- events

-- the words of the events are those of the state after the step
pub went_by : (watch : ℕ) (s : AgentStep) (new : PartsKept) (events : List Event) (mid new_mid : Bool) (before after : List ℕ) → Stepped new s → events ≡ s.events → SaysEvents watch new.table events mid before new_mid after
    → WentStep watch mid s new new_mid before after
went_by watch s new events mid new_mid before after stepped are says =
    let same : rendered watch mid (pieces_of new.table events) ≡ rendered watch mid (pieces_of s.agent.names.words s.events) =
    ap (λ (words : Texts). rendered watch mid (pieces_of words events)) stepped.stands.words ∙ ap (λ (told : List Event). rendered watch mid (pieces_of s.agent.names.words told)) are in
    record {
      stepped = stepped;
      text = says.0 ∙ ap (λ (w : Written). before ++ w.text) same;
      mid_line = says.1 ∙ ap (λ (w : Written). w.mid_line) same;
    }

-- a step that settled, and whose lines were then appended
pub goes_on : (watch : ℕ) (first : List Event) (s : AgentStep) (new : PartsKept) (settled : Settled) (mid new_mid : Bool) (before after : List ℕ) → Settles first s new (Ok settled)
    → SaysEvents watch new.table (first ++ settled_events settled) mid before new_mid after → WentStep watch mid s new new_mid before after
goes_on watch first s new settled mid new_mid before after h says = went_by watch s new (first ++ settled_events settled) mid new_mid before after h.stepped h.events_are says

-- one that did not, and wrote nothing
pub goes_not : (watch : ℕ) (first : List Event) (s : AgentStep) (new : PartsKept) (why : Stop) (mid : Bool) (text : List ℕ) → Settles first s new (Err why)
    → GoesStep {T = Unit {0}} watch mid s new mid text text (Err why)
goes_not watch first s new (stop.Limit limit) mid text h = record { passed = h; text = refl; mid_line = refl }
goes_not watch first s new stop.NoMemory mid text h = tt

-- a decision that stopped stops the call
pub stops_alike : (watch : ℕ) (mid new_mid : Bool) (s : AgentStep) (new : PartsKept) (before after : List ℕ) (why : Stop) → GoesStep {T = Decision} watch mid s new new_mid before after (Err why)
    → GoesStep {T = Bool} watch mid s new new_mid before after (Err why)
stops_alike watch mid new_mid s new before after (stop.Limit limit) h = h
stops_alike watch mid new_mid s new before after stop.NoMemory h = tt
