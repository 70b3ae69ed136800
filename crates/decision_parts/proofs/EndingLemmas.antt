-- The step that a decision ends with: what it settled, and what it told.
use Rattle.std.proofs.Common.{◌≡◌, ◌∙◌, ℕ, ◌||◌, Bool, true, false, List, [], ◌∷◌, ◌++◌, map, refl, sym, ap, subst}
use Rattle.soar_sym.specs.Words.{Texts}
use Rattle.defs_soar.specs.Agents.{Agent}
use Rattle.defs_soar.specs.Decision.{with_decision}
use Rattle.defs_soar.specs.Events.{Event}
use Rattle.defs_soar.specs.Phases.{halting}
use Rattle.defs_soar.specs.Resettling.{AgentStep, resettled}
use Rattle.defs_soar.specs.Trace.{Written, pieces_of, rendered}
use Rattle.defs_soar.specs.Trimming.{RemovedGoal}
use Rattle.step_report.specs.Reports.{removed_seen}
use Rattle.step_report.specs.Saying.{SaysEvents}
use Rattle.step_report.specs.declared.settled.Settled.{Settled}
use Rattle.wave_parts.specs.Resettles.{IsResettled}
use Rattle.wave_parts.specs.Stands.{Stands}
use Rattle.wave_parts.specs.declared.parts.Parts.{Parts as PartsKept}
use Rattle.decision_parts.specs.Deciding.{settled_from}
use Rattle.decision_parts.specs.Saying.{decision_events}
use Rattle.decision_parts.specs.Stepping.{WentStep}
use Rattle.decision_parts.proofs.RemovalLemmas.{decision_told}

-- ---- steps in which nothing halts

or_false : (b : Bool) → b ≡ (b || false)
or_false true = refl
or_false false = refl

halts_not : (s : AgentStep) → s.halted ≡ false → s.agent ≡ halting s
halts_not s h =
    ap (λ (b : Bool). record s.agent { halted = b }) (or_false s.agent.halted) ∙ ap (λ (b : Bool). record s.agent { halted = s.agent.halted || b }) (sym h)

-- ---- what is told

-- the events of the decision, with the words of the state
told_so : (watch : ℕ) (mid : Bool) (words : Texts) (settled : Settled) (said : Event) (x : AgentStep) → words ≡ x.agent.names.words → decision_events settled said ≡ (with_decision (said ∷ []) x).events
    → rendered watch mid (pieces_of words (decision_events settled said)) ≡ rendered watch mid (pieces_of x.agent.names.words (with_decision (said ∷ []) x).events)
told_so watch mid words settled said x words_are events_are = λ k. rendered watch mid (pieces_of (words_are k) (events_are k))

pub ends_so : (watch : ℕ) (mid new_mid : Bool) (new : PartsKept) (settled : Settled) (said : Event) (before after : List ℕ) (x : AgentStep) → x.halted ≡ false → IsResettled new settled x
    → SaysEvents watch new.table (decision_events settled said) mid before new_mid after → WentStep watch mid (with_decision (said ∷ []) x) new new_mid before after
ends_so watch mid new_mid new settled said before after x goes_on is says =
    let written = told_so watch mid new.table settled said x is.stands.words (decision_told x said (map removed_seen settled.removed) settled.changes.gone settled.changes.new is.events_are) in
    record {
      stepped = record { stands = subst (Stands new) (halts_not (with_decision (said ∷ []) x) goes_on) is.stands; within = is.within };
      text = says.0 ∙ ap (λ (w : Written). before ++ w.text) written;
      mid_line = says.1 ∙ ap (λ (w : Written). w.mid_line) written;
    }

pub settled_goes_on : (s : Agent) (removed : List RemovedGoal) → (settled_from s removed).halted ≡ false
unfolding resettled
settled_goes_on s removed = refl
