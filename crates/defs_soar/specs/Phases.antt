-- Phases: waves until nothing is pending, and what they told (Soar manual, chapter 2, elaboration cycle).
use Rattle.std.specs.Prelude.{Bool, true, false, ◌||◌, not, List, [], ◌∷◌, ◌++◌}
use Rattle.soar_sym.specs.Words.{Texts}
use Rattle.soar_rule.specs.Repeat.{Turn, ends, goes_on, turns}
use Rattle.defs_soar.specs.Agents.{Agent}
use Rattle.defs_soar.specs.Events.{Event}
use Rattle.defs_soar.specs.Limits.{Total}
use Rattle.defs_soar.specs.Pending.{pending, is_none}
use Rattle.defs_soar.specs.Resettling.{AgentStep}
use Rattle.defs_soar.specs.WaveAtHand.{WaveEnd}
use Rattle.defs_soar.specs.Waves.{wave_of}

-- what a step told and drew, and the table of words behind it, with which it is told
pub record Said : Type 0 where
  pub words : Texts
  pub events : List Event
  pub totals : List Total

-- a state and the steps that led to it, in order
pub record Course : Type 0 where
  pub agent : Agent
  pub steps : List Said

abbrev pub still : Agent → Course
still a = record { agent = a; steps = [] }

abbrev pub said_by : AgentStep → Said
said_by s = record { words = s.agent.names.words; events = s.events; totals = s.totals }

-- a firing that halts halts the agent
abbrev pub halting : AgentStep → Agent
halting s = record s.agent { halted = s.agent.halted || s.halted }

abbrev pub then_step : Course → AgentStep → Course
then_step c s = record { agent = halting s; steps = c.steps ++ said_by s ∷ [] }

abbrev pub turn_by : Bool → Course → Turn Course
turn_by true c = ends c
turn_by false c = goes_on c

-- a wave, unless nothing is pending; a firing that halts is the last
abbrev pub one_wave : WaveEnd → Bool → Course → Turn Course
one_wave end proposing c =
    let work = pending proposing c.agent in
    elim (is_none work) [ true ↦ ends c | false ↦ let s = wave_of end c.agent work in turn_by s.halted (then_step c s) ]

-- how a phase ended: at rest or halted, or cut
pub record Phased : Type 0 where
  pub course : Course
  pub is_cut : Bool

abbrev pub phased_by : Bool → Turn Course → Phased
phased_by proposing (ends c) = record { course = c; is_cut = false }
phased_by proposing (goes_on c) = record { course = c; is_cut = not (is_none (pending proposing c.agent)) }

-- as many waves as are allowed; it is cut where something is pending then
unfoldable pub phase : WaveEnd → Bool → Agent → Phased
phase end proposing a = phased_by proposing (turns a.settings.max_elaborations (one_wave end proposing) (still a))
