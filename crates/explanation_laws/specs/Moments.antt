-- Explanations stay from each wave of a run to the end of its phase, of its cycle and of the run.
use Rattle.std.specs.Prelude.{◌≡◌, ℕ, suc, ◌<◌, ◌≤◌, Bool, true, false, Some}
use Rattle.soar_rule.specs.Repeat.{ends, goes_on, Turn, turns}
use Rattle.defs_match.specs.Rules.{RuleOf}
use Rattle.defs_soar.specs.Agents.{Agent, Learnt}
use Rattle.defs_soar.specs.Cycle.{after_input, course_of, cycle, run, then_decision, then_phase, unless_halted}
use Rattle.defs_soar.specs.Decision.{decided_by}
use Rattle.defs_soar.specs.Events.{proposal_phase}
use Rattle.defs_soar.specs.History.{ChainOf}
use Rattle.defs_soar.specs.Laws.{IsIn}
use Rattle.defs_soar.specs.Learning.{with_learning}
use Rattle.defs_soar.specs.Pending.{is_none, pending}
use Rattle.defs_soar.specs.Phases.{Course, one_wave, phase, still, then_step}
use Rattle.defs_soar.specs.Waves.{worked}
use Rattle.defs_run.specs.Carrying.{chain_of_rule}
use Rattle.explanation_laws.specs.Printed.{HasExplanation}
use Rattle.explanation_laws.specs.Staying.{IsNumberedProgram, LaterAgent}

-- ---- moments of a run

-- the waves of a phase up to a number, the proposal phase or the application phase
abbrev pub first_waves : Bool → ℕ → Agent → Turn Course
first_waves proposing waves a = turns waves (one_wave with_learning proposing) (still a)

-- the agent after them, or after all where the phase has fewer
abbrev pub after_waves : Bool → ℕ → Agent → Agent
after_waves proposing waves a = (course_of (first_waves proposing waves a)).agent

-- a cycle up to its decision
abbrev pub input_taken : Agent → Course
input_taken a = then_step (still a) (after_input a)

abbrev pub decided : Agent → Course
decided a = unless_halted (then_decision decided_by) (then_phase with_learning proposal_phase true (input_taken a))

-- the agent with which a phase of a cycle begins
abbrev pub at_phase : Bool → Agent → Agent
at_phase true a = (input_taken a).agent
at_phase false a = (decided a).agent

-- the agent after a number of cycles
abbrev pub after_cycles : ℕ → Agent → Agent
after_cycles cycles a = (run decided_by with_learning cycles a).agent

-- in the cycle after the first ones, in one of its phases, after the first waves of that
pub record Moment : Type 0 where
  pub cycles : ℕ
  pub proposing : Bool
  pub waves : ℕ

abbrev pub phase_at : Moment → Agent → Agent
phase_at m a = at_phase m.proposing (after_cycles m.cycles a)

abbrev pub agent_at : Moment → Agent → Agent
agent_at m a = after_waves m.proposing m.waves (phase_at m a)

-- a run of a number of cycles comes to the moment
pub record IsWithin (cycles : ℕ) (a : Agent) (m : Moment) : Type 0 where
  pub early : m.cycles < cycles
  pub runs : (after_cycles m.cycles a).halted ≡ false
  pub begins : (phase_at m a).halted ≡ false
  pub allowed : m.waves ≤ (phase_at m a).settings.max_elaborations

-- ---- from a moment on

-- to the end of the phase
abbrev pub PhasesLast : Type 0
PhasesLast =
    (proposing : Bool) (waves : ℕ) (a : Agent) → IsNumberedProgram a.program → waves ≤ a.settings.max_elaborations
    → LaterAgent (after_waves proposing waves a) (phase with_learning proposing a).course.agent

-- to the end of the cycle
abbrev pub CyclesLast : Type 0
CyclesLast =
    (proposing : Bool) (waves : ℕ) (a : Agent) → IsNumberedProgram a.program → (at_phase proposing a).halted ≡ false → waves ≤ (at_phase proposing a).settings.max_elaborations
    → LaterAgent (after_waves proposing waves (at_phase proposing a)) (cycle decided_by with_learning a).agent

-- to the end of the run
abbrev pub RunsLast : Type 0
RunsLast = (cycles : ℕ) (a : Agent) (m : Moment) → IsNumberedProgram a.program → IsWithin cycles a m → LaterAgent (agent_at m a) (after_cycles cycles a)

-- so a rule that is loaded at the end of the run has the explanation that it had at the moment
abbrev pub ExplanationsLast : Type 0
ExplanationsLast =
    (cycles : ℕ) (a : Agent) (m : Moment) (r : RuleOf) (c : ChainOf) → IsWithin cycles a m → IsNumberedProgram a.program → HasExplanation (agent_at m a).program r c
    → IsIn r (after_cycles cycles a).program.rules → HasExplanation (after_cycles cycles a).program r c

-- ---- from the wave on in which it is made

abbrev pub is_going : Turn Course → Bool
is_going (ends c) = false
is_going (goes_on c) = true

-- a wave follows the moment
pub record IsFollowed (a : Agent) (m : Moment) : Type 0 where
  pub goes : is_going (first_waves m.proposing m.waves (phase_at m a)) ≡ true
  pub works : is_none (pending m.proposing (agent_at m a)) ≡ false

abbrev pub next_wave : Moment → Moment
next_wave m = record m { waves = suc m.waves }

-- an explanation that the wave makes is that of the rule of its number, where the end of the run has that rule
abbrev pub LearnedLasts : Type 0
LearnedLasts =
    (cycles : ℕ) (a : Agent) (m : Moment) (l : Learnt) (r : RuleOf) → IsNumberedProgram a.program → IsFollowed a m → IsWithin cycles a (next_wave m)
    → IsIn l (worked with_learning (agent_at m a) (pending m.proposing (agent_at m a))).program.chains → (agent_at m a).program.last_rule < l.rule
    → IsIn r (after_cycles cycles a).program.rules → r.number ≡ l.rule → chain_of_rule (after_cycles cycles a).program.chains r.number ≡ Some l.chain
