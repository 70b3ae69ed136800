-- A selection: the random words that are left, and its line.
use Rattle.std.proofs.Common.{◌≡◌, ℕ, ◌+◌, Bool, true, false, List, [], ◌∷◌, drop, length, Some, refl, sym, ap, subst, arith}
use Rattle.std.specs.Prelude.{if◌then◌else◌}
use Rattle.defs_soar.specs.declared.goal.Goal.{Goal}
use Rattle.defs_soar.specs.Agents.{Agent}
use Rattle.defs_soar.specs.Decision.{first_symbol, names_of_operator, operator_name, selection_events, with_decision, without_words}
use Rattle.defs_soar.specs.Events.{Event, selects}
use Rattle.defs_soar.specs.History.{RecordedFiring}
use Rattle.defs_soar.specs.Resettling.{AgentStep}
use Rattle.defs_soar.specs.Trimming.{RemovedGoal}
use Rattle.trace_lines.specs.Saying.{selection_event}
use Rattle.trace_lines.specs.declared.selection.Selected.{Selected}
use Rattle.wave_parts.specs.Remembers.{Remembers}
use Rattle.wave_parts.specs.Seen.{agent_of}
use Rattle.wave_parts.specs.Stands.{Stands}
use Rattle.wave_parts.specs.declared.parts.Parts.{Parts as PartsKept}
use Rattle.wave_parts.proofs.StandsLemmas.{of_each_state, remembers_same, stands_for}
use Rattle.decision_parts.specs.Deciding.{selection_step, settled_from}

-- ---- the random words

abbrev words_left : Bool → List ℕ → List ℕ
words_left takes random = if takes then drop 1 random else random

abbrev pub with_random : PartsKept → List ℕ → PartsKept
with_random a random = record a { random = random }

abbrev after_draw : Agent → Bool → Agent
after_draw s takes = record s { queues = without_words takes s.queues }

drawn_is : (a : PartsKept) (random : List ℕ) (history : List RecordedFiring) (takes : Bool) → random ≡ words_left takes a.random → agent_of (with_random a random) history ≡ after_draw (agent_of a history) takes
drawn_is a random history true is = ap (λ r. agent_of (with_random a r) history) is
drawn_is a random history false is = ap (λ r. agent_of (with_random a r) history) is

drawn_stands : (a : PartsKept) (random : List ℕ) (history : List RecordedFiring) (takes : Bool) → random ≡ words_left takes a.random → Remembers a history
    → Stands (with_random a random) (after_draw (agent_of a history) takes)
drawn_stands a random history takes is remembers =
    stands_for (with_random a random) history (after_draw (agent_of a history) takes) (remembers_same a (with_random a random) history refl refl refl refl refl refl refl remembers)
    (drawn_is a random history takes is)

-- ---- the line

-- it tells the cycle, how deep the goal is, and the name as it was
pub record TellsSelection (a : PartsKept) (selected : Selected) : Type 0 where
  pub cycle_is : selected.cycle ≡ a.cycles
  pub below_is : selected.below + 1 ≡ length a.goals
  pub name_is : selected.name ≡ first_symbol (names_of_operator a.table a.memory.elements selected.operator)

line_is : (s : Agent) (goals : List Goal) (selected : Selected) → selected.cycle ≡ s.counts.cycles → selected.below + 1 ≡ length goals → selected.name ≡ operator_name s selected.operator
    → selection_events s goals (Some selected.operator) ≡ selection_event selected ∷ []
line_is s [] selected cycle below name = absurd (omega (arith, below))
line_is s (top ∷ goals) selected cycle below name =
    let depth : selected.below ≡ length goals = omega (arith, below) in
    λ k. selects (sym cycle k) (sym depth k) selected.operator (sym name k) ∷ []

-- ---- the step

-- what holds of the step from the words that are left holds of the selection
pub selects_so : (P : AgentStep → Type 0) (a : PartsKept) (random : List ℕ) (selected : Selected) (takes : Bool) (removed : List RemovedGoal) → random ≡ words_left takes a.random → TellsSelection a selected
    → ((s : Agent) → Stands (with_random a random) s → P (with_decision (selection_event selected ∷ []) (settled_from s removed)))
    → (s : Agent) → Stands a s → P (selection_step s removed (Some selected.operator) takes)
selects_so P a random selected takes removed is tells steps =
    of_each_state (λ (s : Agent). P (selection_step s removed (Some selected.operator) takes)) a (λ history remembers.
    let s = after_draw (agent_of a history) takes in
    subst (λ (said : List Event). P (with_decision said (settled_from s removed)))
    (sym (line_is (agent_of a history) a.goals selected tells.cycle_is tells.below_is tells.name_is)) (steps s (drawn_stands a random history takes is remembers)))
