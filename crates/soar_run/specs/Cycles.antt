-- Cycles in a row, and what each says.
use Rattle.std.specs.Prelude.{◌≡◌, ℕ, Bool, true, false, List, [], ◌++◌, Option, Some, Result, Ok, Err}
use Rattle.soar_rule.specs.Repeat.{turns}
use Rattle.soar_edge.specs.Outside.{Appends}
use Rattle.soar_edge.specs.declared.fault.PutFault.{PutFault}
use Rattle.defs_soar.specs.Agents.{Agent}
use Rattle.defs_soar.specs.Cycle.{course_of, cycle, one_cycle}
use Rattle.defs_soar.specs.Decision.{decided_by}
use Rattle.defs_soar.specs.Learning.{with_learning}
use Rattle.defs_soar.specs.declared.limit.Which.{Which}
use Rattle.defs_soar.specs.Phases.{Course}
use Rattle.defs_run.specs.Sessions.{goes_on}
use Rattle.command_runs.specs.Carrying.{sequel_of}
use Rattle.soar_agent.specs.Agents.{AgentSeen}
use Rattle.soar_agent.specs.Courses.{Went, front_said, limit_in}
use Rattle.soar_agent.specs.Writing.{limit_line}
use Rattle.soar_agent.specs.declared.state.Session.{Session as SessionKept}
use Rattle.soar_run.specs.Ready.{IsReadySession}
use Rattle.command_runs.specs.declared.carrier.Answered.{Answered}
use Rattle.command_runs.specs.declared.carrier.Answered.TheVariants as answered

-- a cycle, in which the agent learns
abbrev pub cycle_of : Agent → Course
cycle_of a = cycle decided_by with_learning a

-- so many more of them behind a course, or until the agent halts
abbrev pub cycles_behind : ℕ → Course → Course
cycles_behind n c = course_of (turns n (one_cycle decided_by with_learning) c)

-- what a course writes: its steps up to a limit, and the line of that
abbrev pub course_text : ℕ → Bool → Course → List ℕ
course_text watch mid c = (front_said watch mid c.steps).text ++ limit_line (front_said watch mid c.steps).mid_line (limit_in c.steps)

-- the agent is behind the course, and so much was said
abbrev pub WentSaying : ℕ → Bool → Course → AgentSeen → List ℕ → Type 0
WentSaying watch mid c new text = Went watch mid c new.parts new.mid_line [] text

abbrev pub WentBehind : ℕ → Bool → Course → AgentSeen → Type 0
WentBehind watch mid c new = (text : List ℕ) × WentSaying watch mid c new text

-- the course passes a limit
abbrev pub PassesLimit : Course → Type 0
PassesLimit c = (limit : Which) × (limit_in c.steps ≡ Some limit)

abbrev pub WritesCycle : ℕ → Bool → Course → AgentSeen → Option (List ℕ) → Option (List ℕ) → Result Bool PutFault → Type 0
WritesCycle watch mid c new before now (Ok true) = (text : List ℕ) × WentSaying watch mid c new text × Appends before now text
WritesCycle watch mid c new before now (Ok false) = PassesLimit c × Appends before now (course_text watch mid c)
WritesCycle watch mid c new before now (Err e) = Unit {0}

abbrev pub IsRan : {M : Type 0} → ℕ → Bool → Course → SessionKept M → SessionKept M → Answered → Type 0
IsRan watch mid c old new (answered.Went refused following) = (refused ≡ false) × (sequel_of following ≡ goes_on) × WentBehind watch mid c new.agent × (new.labels ≡ old.labels) × (new.agent.parts.settings ≡ old.agent.parts.settings) × IsReadySession new
IsRan watch mid c old new answered.Stopped = PassesLimit c

abbrev pub IsRanOk : {M : Type 0} → ℕ → Bool → Course → SessionKept M → SessionKept M → Result Answered PutFault → Type 0
IsRanOk watch mid c old new (Ok answer) = IsRan watch mid c old new answer
IsRanOk watch mid c old new (Err e) = Unit {0}
