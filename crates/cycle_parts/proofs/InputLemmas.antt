-- The input phase: what it draws, and what it settles.
use Rattle.std.proofs.Common.{◌≡◌, ◌∙◌, ℕ, suc, ◌+◌, ◌≤◌, ◌<◌, nat_lt, List, [], ◌∷◌, map, None, Some, Result, Ok, Err, cond, true, false, refl, sym, ap, subst, arith, add-one}
use Rattle.soar_sym.specs.declared.symbol.Triple.{Triple}
use Rattle.defs_soar.specs.declared.limit.Which.TheVariants as which
use Rattle.defs_soar.specs.Agents.{Agent}
use Rattle.defs_soar.specs.Cycle.{after_input, with_changes}
use Rattle.defs_soar.specs.Events.{Event, begins, input_phase}
use Rattle.defs_soar.specs.History.{RecordedFiring}
use Rattle.defs_soar.specs.Limits.{counts_to, first_passed, limit_passed, or_limit}
use Rattle.defs_soar.specs.Resettling.{AgentStep, resettled}
use Rattle.input_queue.specs.Seen.{queued_seen}
use Rattle.soar_settle.specs.declared.stop.Stop.{Stop}
use Rattle.soar_settle.specs.declared.stop.Stop.TheVariants as stop
use Rattle.decision_parts.specs.Counting.{Counts}
use Rattle.decision_parts.specs.Resettles.{resettled_now}
use Rattle.decision_parts.specs.Seen.{agent_of}
use Rattle.decision_parts.specs.Stands.{Stands}
use Rattle.decision_parts.specs.Parts.{Parts as PartsKept}
use Rattle.step_report.specs.declared.settled.Settled.{Settled}
use Rattle.decision_parts.proofs.StandsLemmas.{of_each_state, remembers_same, stands_at}
use Rattle.cycle_parts.specs.Settling.{Settles}

-- ---- the number of cycles

passed_counts : (n : ℕ) → 18446744073709551615 < n → limit_passed n which.Counts ≡ Some which.Counts
passed_counts n over = let above : nat_lt 18446744073709551615 n ≡ true = grind arith in ap (λ b. cond b (Some which.Counts) None) above

within_counts : (n : ℕ) → n ≤ 18446744073709551615 → limit_passed n which.Counts ≡ None
within_counts n fits = let below : nat_lt 18446744073709551615 n ≡ false = grind arith in ap (λ b. cond b (Some which.Counts) None) below

-- ---- the step

-- with the line of the phase and the number of the cycle before what settling tells and draws
abbrev in_cycle : ℕ → AgentStep → AgentStep
in_cycle n s = record s { events = begins input_phase ∷ s.events; totals = counts_to n ∷ s.totals }

-- the parts that are settled; nothing was learned in the new cycle
abbrev pub with_inputs : PartsKept → List Triple → List Triple → ℕ → PartsKept
with_inputs a inputs moved cycles = record a { inputs = inputs; changed = moved; queue = []; cycles = cycles; learned = 0 }

input_at : (a : PartsKept) (history : List RecordedFiring) (moved : List Triple)
    → after_input (agent_of a history) ≡ in_cycle (suc a.cycles) (resettled_now (agent_of (with_inputs a (with_changes a.inputs (map queued_seen a.queue)) moved (suc a.cycles)) history))
unfolding after_input resettled
input_at a history moved = refl

input_is : (a : PartsKept) (history : List RecordedFiring) (inputs moved : List Triple) (cycles : ℕ) → inputs ≡ with_changes a.inputs (map queued_seen a.queue) → cycles ≡ a.cycles + 1
    → after_input (agent_of a history) ≡ in_cycle cycles (resettled_now (agent_of (with_inputs a inputs moved cycles) history))
input_is a history inputs moved cycles changed counted =
    input_at a history moved
    ∙ ap (λ n. in_cycle n (resettled_now (agent_of (with_inputs a (with_changes a.inputs (map queued_seen a.queue)) moved n) history))) (sym (add-one a.cycles) ∙ sym counted)
    ∙ ap (λ l. in_cycle cycles (resettled_now (agent_of (with_inputs a l moved cycles) history))) (sym changed)

-- ---- each answer

in_cycle_steps : (n : ℕ) (s : AgentStep) (new : PartsKept) (result : Result Settled Stop) → n ≤ 18446744073709551615 → Settles [] s new result → Settles (begins input_phase ∷ []) (in_cycle n s) new result
in_cycle_steps n s new (Ok settled) fits h = record {
  stepped = record { stands = h.stepped.stands; within = ap (λ o. or_limit o (first_passed s.totals)) (within_counts n fits) ∙ h.stepped.within };
  events_are = ap (λ (events : List Event). begins input_phase ∷ events) h.events_are;
}
in_cycle_steps n s new (Err (stop.Limit limit)) fits h = ap (λ o. or_limit o (first_passed s.totals)) (within_counts n fits) ∙ h
in_cycle_steps n s new (Err stop.NoMemory) fits h = tt

pub takes_input : (a new : PartsKept) (inputs moved : List Triple) (cycles : ℕ) (result : Result Settled Stop) → inputs ≡ with_changes a.inputs (map queued_seen a.queue) → Counts (a.cycles + 1) (Ok cycles)
    → ((s : Agent) → Stands (with_inputs a inputs moved cycles) s → Settles [] (resettled_now s) new result)
    → (s : Agent) → Stands a s → Settles (begins input_phase ∷ []) (after_input s) new result
takes_input a new inputs moved cycles result changed counted settled =
    of_each_state (λ (s : Agent). Settles (begins input_phase ∷ []) (after_input s) new result) a
    (λ history remembers. subst (λ (s : AgentStep). Settles (begins input_phase ∷ []) s new result) (sym (input_is a history inputs moved cycles changed counted.0))
    (in_cycle_steps cycles (resettled_now (agent_of (with_inputs a inputs moved cycles) history)) new result (omega (arith, counted.0, counted.1))
    (settled (agent_of (with_inputs a inputs moved cycles) history) (stands_at (with_inputs a inputs moved cycles) history (remembers_same a (with_inputs a inputs moved cycles) history refl refl refl refl refl refl refl remembers)))))

stops_at : (a : PartsKept) (history : List RecordedFiring) → 18446744073709551615 < suc a.cycles → first_passed (after_input (agent_of a history)).totals ≡ Some which.Counts
unfolding after_input resettled
stops_at a history over = ap (λ o. or_limit o (first_passed (resettled_now (agent_of (with_inputs a (with_changes a.inputs (map queued_seen a.queue)) a.changed (suc a.cycles)) history)).totals)) (passed_counts (suc a.cycles) over)

-- a cycle too many
pub input_stops : (a new : PartsKept) (why : Stop) → Counts (a.cycles + 1) (Err why) → (s : Agent) → Stands a s → Settles (begins input_phase ∷ []) (after_input s) new (Err why)
input_stops a new (stop.Limit limit) over =
    of_each_state (λ (s : Agent). first_passed (after_input s).totals ≡ Some limit) a (λ history remembers. stops_at a history (omega (arith, over.1)) ∙ ap Some (sym over.0))
input_stops a new stop.NoMemory over = absurd over
