-- Explanations stay through learning, waves, decisions, cycles, orders and commands.
use Rattle.std.specs.Prelude.{◌≡◌, ℕ, ◌<◌, Bool, List, [], ◌∷◌, Some}
use Rattle.soar_sym.specs.Words.{Texts}
use Rattle.defs_soar.specs.Agents.{Agent, Learnt, LiveFiring}
use Rattle.defs_soar.specs.Cycle.{cycle, run}
use Rattle.defs_soar.specs.Decision.{decided_by}
use Rattle.defs_soar.specs.Laws.{IsIn}
use Rattle.defs_soar.specs.Learning.{with_learning}
use Rattle.defs_soar.specs.Pending.{Work}
use Rattle.defs_soar.specs.Phases.{Course}
use Rattle.defs_soar.specs.Start.{first_agent}
use Rattle.defs_soar.specs.WaveAtHand.{BeforeWave, Wave}
use Rattle.defs_soar.specs.Waves.{after_work, wave_of}
use Rattle.defs_run.specs.Carrying.{carried_out, chain_of_rule}
use Rattle.defs_run.specs.Inputs.{Carried, does, refuses}
use Rattle.defs_run.specs.Orders.{Order}
use Rattle.defs_run.specs.Runs.{obeyed}
use Rattle.defs_run.specs.Sessions.{first_session, Session}
use Rattle.defs_run.specs.Stages.{Reading, Stage}
use Rattle.defs_run.specs.Whole.{whole_stage}
use Rattle.learning_laws.specs.Lawful.{Grown}
use Rattle.explanation_laws.specs.Staying.{IsNumberedProgram, Later, LaterAgent}

abbrev pub FirstAgentIsNumbered : Type 0
FirstAgentIsNumbered = (watch : ℕ) → IsNumberedProgram (first_agent watch).program

abbrev pub FirstSessionIsNumbered : Type 0
FirstSessionIsNumbered = (watch : ℕ) → IsNumberedProgram (first_session watch).agent.program

-- ---- waves and cycles

abbrev pub LearningStays : Type 0
LearningStays = (m : BeforeWave) (w : Wave) → IsNumberedProgram w.program → Later w.program (with_learning m w).program

-- each explanation that joins is found under the number of its rule
abbrev pub LearnedIsFound : Type 0
LearnedIsFound =
    (m : BeforeWave) (w : Wave) (l : Learnt) → IsNumberedProgram w.program → IsIn l (with_learning m w).program.chains → w.program.last_rule < l.rule
    → chain_of_rule (with_learning m w).program.chains l.rule ≡ Some l.chain

-- what a wave that has learned leaves, without the justifications of firings that are gone
abbrev pub WorkStays : Type 0
WorkStays =
    (a : Agent) (gone : List LiveFiring) (w : Wave) → IsNumberedProgram w.program
    → Later w.program (after_work a gone w).agent.program × Grown w.names.words (after_work a gone w).agent.names.words

abbrev pub WavesStay : Type 0
WavesStay = (a : Agent) (work : Work) → IsNumberedProgram a.program → LaterAgent a (wave_of with_learning a work).agent

abbrev pub DecisionsStay : Type 0
DecisionsStay = (a : Agent) → IsNumberedProgram a.program → LaterAgent a (decided_by a).agent

abbrev pub CyclesStay : Type 0
CyclesStay = (a : Agent) → IsNumberedProgram a.program → LaterAgent a (cycle decided_by with_learning a).agent

-- so many cycles, as they go at some stage
abbrev pub RunsStay : (ℕ → Agent → Course) → Type 0
RunsStay runs = (n : ℕ) (a : Agent) → IsNumberedProgram a.program → LaterAgent a (runs n a).agent

abbrev pub WholeRunsStay : Type 0
WholeRunsStay = RunsStay (run decided_by with_learning)

-- ---- orders and commands

abbrev pub LeavesLater : Agent → Carried → Type 0
LeavesLater a (does reply) = LaterAgent a reply.session.agent
LeavesLater a (refuses r) = Unit {0}

abbrev pub OrdersStay : Type 0
OrdersStay = (runs : ℕ → Agent → Course) (order : Order) (s : Session) → RunsStay runs → IsNumberedProgram s.agent.program → LeavesLater s.agent (carried_out runs order s)

-- the words of what is read join the table
abbrev pub ReadsLater : (Texts → List ℕ → Reading) → Type 0
ReadsLater read = (words : Texts) (text : List ℕ) → Grown words (read words text).words

-- a command of any stage that reads and runs so, refused or not
abbrev pub CommandsStay : Type 0
CommandsStay =
    (stage : Stage) (from : List ℕ) (number : ℕ) (text : List ℕ) (s : Session) → ReadsLater stage.read → RunsStay stage.run → IsNumberedProgram s.agent.program
    → LaterAgent s.agent (obeyed stage from number text s).session.agent

abbrev pub WholeCommandsStay : Type 0
WholeCommandsStay =
    (from : List ℕ) (number : ℕ) (text : List ℕ) (s : Session) → IsNumberedProgram s.agent.program → LaterAgent s.agent (obeyed whole_stage from number text s).session.agent

-- a command, with the name of its stream and its line; and whether what was written before it ends in the middle of a line
pub record Command : Type 0 where
  pub from : List ℕ
  pub number : ℕ
  pub text : List ℕ
  pub mid_line : Bool

-- the session after these commands of the whole program, each carried out or refused
abbrev pub after_commands : List Command → Session → Session
after_commands [] s = s
after_commands (c ∷ commands) s = after_commands commands (obeyed whole_stage c.from c.number c.text (record s { mid_line = c.mid_line })).session

abbrev pub AllCommandsStay : Type 0
AllCommandsStay = (commands : List Command) (s : Session) → IsNumberedProgram s.agent.program → LaterAgent s.agent (after_commands commands s).agent
