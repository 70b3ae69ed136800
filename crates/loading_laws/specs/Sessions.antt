-- Commands keep a session lawful.
use Rattle.std.specs.Prelude.{ℕ, List}
use Rattle.defs_soar.specs.Agents.{Agent}
use Rattle.defs_soar.specs.Cycle.{run}
use Rattle.defs_soar.specs.Decision.{decided_by}
use Rattle.defs_soar.specs.Learning.{with_learning}
use Rattle.defs_soar.specs.Phases.{Course}
use Rattle.defs_run.specs.Carrying.{carried_out}
use Rattle.defs_run.specs.Inputs.{Carried, does, refuses}
use Rattle.defs_run.specs.Orders.{Order}
use Rattle.defs_run.specs.Runs.{obeyed}
use Rattle.defs_run.specs.Sessions.{first_session, Session}
use Rattle.defs_run.specs.Stages.{Stage}
use Rattle.defs_run.specs.Whole.{whole_stage}
use Rattle.learning_laws.specs.LawfulAgents.{IsLawfulAgent}
use Rattle.letter_laws.specs.Grows.{LettersGrow}
use Rattle.loading_laws.specs.Labels.{AreLabelsGiven}
use Rattle.loading_laws.specs.Orders.{IsLawfulOrder, ReadsLawfully}

-- the agent is lawful, and its letters gave the labels
pub record IsLawfulSession (s : Session) : Type 0 where
  pub agent : IsLawfulAgent s.agent
  pub labels : AreLabelsGiven s.agent.names s.labels

abbrev pub FirstSessionIsLawful : Type 0
FirstSessionIsLawful = (watch : ℕ) → IsLawfulSession (first_session watch)

-- ---- orders

-- running so many cycles keeps an agent lawful, and takes no identifier back
abbrev pub RunsLawfully : (ℕ → Agent → Course) → Type 0
RunsLawfully runs = (n : ℕ) (a : Agent) → IsLawfulAgent a → IsLawfulAgent (runs n a).agent × LettersGrow a.names.letters (runs n a).agent.names.letters

abbrev pub WholeRunsLawfully : Type 0
WholeRunsLawfully = RunsLawfully (run decided_by with_learning)

-- what an order does leaves the session lawful
abbrev pub LeavesLawful : Carried → Type 0
LeavesLawful (does reply) = IsLawfulSession reply.session
LeavesLawful (refuses r) = Unit {0}

abbrev pub OrdersLeaveLawful : Type 0
OrdersLeaveLawful =
    (runs : ℕ → Agent → Course) (order : Order) (s : Session) → RunsLawfully runs → IsLawfulOrder s.agent.names.words order → IsLawfulSession s → LeavesLawful (carried_out runs order s)

-- ---- commands

-- so does a command of any stage that reads and runs lawfully, refused or not; and the whole program is such a stage
abbrev pub CommandsLeaveLawful : Type 0
CommandsLeaveLawful =
    (stage : Stage) (from : List ℕ) (number : ℕ) (text : List ℕ) (s : Session) → ReadsLawfully stage.read → RunsLawfully stage.run → IsLawfulSession s
    → IsLawfulSession (obeyed stage from number text s).session

abbrev pub WholeCommandsLeaveLawful : Type 0
WholeCommandsLeaveLawful = (from : List ℕ) (number : ℕ) (text : List ℕ) (s : Session) → IsLawfulSession s → IsLawfulSession (obeyed whole_stage from number text s).session
