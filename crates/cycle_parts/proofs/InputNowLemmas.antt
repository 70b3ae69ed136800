-- What settling answers, once the inputs were changed, is what the change answers.
use Rattle.std.proofs.Common.{◌≡◌, Bool, List, [], Result, refl, ap, subst, ◌∙◌}
use Rattle.soar_sym.specs.declared.symbol.Triple.{Triple}
use Rattle.defs_soar.specs.Agents.{Agent}
use Rattle.defs_soar.specs.History.{RecordedFiring}
use Rattle.defs_soar.specs.Resettling.{AgentStep, resettled}
use Rattle.soar_settle.specs.declared.stop.Stop.{Stop}
use Rattle.step_report.specs.declared.settled.Settled.{Settled}
use Rattle.decision_parts.specs.Resettles.{resettled_now}
use Rattle.decision_parts.specs.Seen.{agent_of}
use Rattle.decision_parts.specs.Stands.{Stands}
use Rattle.decision_parts.specs.Parts.{Parts as PartsKept}
use Rattle.decision_parts.proofs.StandsLemmas.{of_each_state, remembers_same, stands_at}
use Rattle.cycle_parts.specs.Calls.{input_step, with_input}
use Rattle.cycle_parts.specs.Settling.{Settles}
use Rattle.cycle_parts.proofs.SoundLemmas.{with_inputs}

-- settling puts what is held in the place of what there was
same_step : (a : PartsKept) (history : List RecordedFiring) (moved : List Triple) (adds : Bool) (t : Triple) → resettled_now (agent_of (with_inputs a (with_input adds t a.inputs) moved) history) ≡ input_step adds t (agent_of a history)
unfolding resettled
same_step a history moved adds t = refl

pub settled_inputs : (a new : PartsKept) (inputs moved : List Triple) (adds : Bool) (t : Triple) (result : Result Settled Stop) → inputs ≡ with_input adds t a.inputs
    → ((s : Agent) → Stands (with_inputs a inputs moved) s → Settles [] (resettled_now s) new result) → (s : Agent) → Stands a s → Settles [] (input_step adds t s) new result
settled_inputs a new inputs moved adds t result are settled =
    of_each_state (λ (s : Agent). Settles [] (input_step adds t s) new result) a
    (λ history remembers. subst (λ (s : AgentStep). Settles [] s new result) (ap (λ (changed : List Triple). resettled_now (agent_of (with_inputs a changed moved) history)) are ∙ same_step a history moved adds t)
    (settled (agent_of (with_inputs a inputs moved) history) (stands_at (with_inputs a inputs moved) history (remembers_same a (with_inputs a inputs moved) history refl refl refl refl refl refl refl remembers))))
