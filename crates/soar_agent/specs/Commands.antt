-- What a command and a cycle answer, and what they append.
use Rattle.std.specs.Prelude.{◌≡◌, ◌==◌, ◌||◌, ℕ, Bool, true, false, IsTrue, List, ◌++◌, Some, Result, Ok, Err, if◌then◌else◌}
use Rattle.defs_soar.specs.History.{RecordedFiring}
use Rattle.defs_soar.specs.Limits.{limit_text}
use Rattle.defs_soar.specs.Phases.{Course}
use Rattle.defs_soar.specs.Trace.{line_text}
use Rattle.defs_run.specs.Carrying.{followed}
use Rattle.soar_agent.specs.Running.{run_learning}
use Rattle.defs_run.specs.Orders.{Refusal, unfinished_command, no_file, sources_too_deep, too_many_files}
use Rattle.defs_run.specs.Sessions.{Session, Reply, goes_on, sources, quits}
use Rattle.soar_settle.specs.declared.stop.Stop.{Stop}
use Rattle.soar_settle.specs.declared.stop.Stop.TheVariants as stop
use Rattle.soar_cycle.specs.Remembers.{Remembers}
use Rattle.soar_cycle.specs.Seen.{agent_of}
use Rattle.soar_cycle.specs.Agents.{AgentSeen}
use Rattle.soar_cycle.specs.Courses.{Went, front_said, limit_in}
use Rattle.soar_agent.specs.States.{IsReady, session_of}
use Rattle.soar_agent.specs.Steps.{Replied, Stops}
use Rattle.soar_agent.specs.Telling.{front_told, limit_told}
use Rattle.soar_agent.specs.Writing.{step_text}
use Rattle.soar_agent.specs.declared.outcome.Outcome.{Outcome}
use Rattle.soar_agent.specs.declared.outcome.Outcome.TheVariants as outcome
use Rattle.soar_agent.specs.declared.state.Session.{Session as SessionKept}

-- ---- a command

-- the same is told of both replies
pub record IsSame (watch : ℕ) (first second : Reply) : Type 0 where
  pub session : first.session ≡ second.session
  pub refused : first.refused ≡ second.refused
  pub sequel : first.sequel ≡ second.sequel
  pub limit : limit_told first.told ≡ limit_told second.told
  pub front : (mid : Bool) → front_told watch mid first.told ≡ front_told watch mid second.told

-- nothing was appended, and what is still to do for the reply is so many cycles
pub record AsksToRun {M : Type 0} (watch : ℕ) (mid : Bool) (reply : Reply) (new : SessionKept M) (before after : List ℕ) (count : ℕ) : Type 0 where
  pub history : List RecordedFiring
  pub remembers : Remembers new.agent.parts history
  pub comes : IsSame watch reply (followed (session_of new history) (run_learning count (agent_of new.agent.parts history)))
  pub text : after ≡ before
  pub mid_line : new.agent.mid_line ≡ mid
  pub settings : new.agent.parts.settings.watch ≡ watch
  pub kept : IsReady new

-- each answer, exactly where it comes, with what follows the command; only want of memory is free
abbrev pub Outcomes : {M : Type 0} → ℕ → Bool → Reply → SessionKept M → List ℕ → List ℕ → Result Outcome Stop → Type 0
Outcomes watch mid reply new before after (Ok outcome.Done) = Replied watch mid reply new before after false × (reply.sequel ≡ goes_on)
Outcomes watch mid reply new before after (Ok (outcome.Refused number)) = Replied watch mid reply new before after true × (reply.sequel ≡ goes_on)
Outcomes watch mid reply new before after (Ok (outcome.Run count)) = AsksToRun watch mid reply new before after count × (reply.sequel ≡ goes_on)
Outcomes watch mid reply new before after (Ok (outcome.Source name)) = Replied watch mid reply new before after false × (reply.sequel ≡ sources name)
Outcomes watch mid reply new before after (Ok outcome.Quit) = Replied watch mid reply new before after false × (reply.sequel ≡ quits)
Outcomes watch mid reply new before after (Err (stop.Limit limit)) = Stops watch mid reply new before after limit
Outcomes watch mid reply new before after (Err stop.NoMemory) = Unit {0}

-- at a limit the line of that is appended too, and nothing where there is no memory
abbrev pub Commands : {M : Type 0} → Session → Reply → SessionKept M → List ℕ → List ℕ → Result Outcome Stop → Type 0
Commands s reply new before after (Ok answer) = Outcomes s.agent.settings.watch s.mid_line reply new before after (Ok answer)
Commands s reply new before after (Err (stop.Limit limit)) = (limit_told reply.told ≡ Some limit) × (after ≡ before ++ step_text s reply)
Commands s reply new before after (Err stop.NoMemory) = after ≡ before

-- ---- a cycle

-- so it is with the course of a cycle
abbrev pub Cycled : {T : Type 0} → ℕ → Bool → Course → AgentSeen → List ℕ → List ℕ → Result T Stop → Type 0
Cycled watch mid c new before after (Ok done) = Went watch mid c new.parts new.mid_line before after
Cycled watch mid c new before after (Err (stop.Limit limit)) =
    (limit_in c.steps ≡ Some limit) × (after ≡ before ++ ((front_said watch mid c.steps).text ++ line_text (front_said watch mid c.steps).mid_line (limit_text limit)))
Cycled watch mid c new before after (Err stop.NoMemory) = after ≡ before

-- ---- refusals that the caller tells

-- a command without an end, a file that is not there, a file inside too many others, one file too many
abbrev pub IsToldByCaller : ℕ → Type 0
IsToldByCaller number = IsTrue ((number == 11) || ((number == 40) || ((number == 41) || (number == 42))))

abbrev pub refusal_told : ℕ → List ℕ → Refusal
refusal_told number name = if number == 11 then unfinished_command else if number == 40 then no_file name else if number == 41 then sources_too_deep else too_many_files

-- the line was appended; no limit can come, and nothing is appended where there is no memory
abbrev pub RefusesTold : {M : Type 0} → Session → Reply → SessionKept M → List ℕ → List ℕ → Result (Unit {0}) Stop → Type 0
RefusesTold s reply new before after (Ok done) = Replied s.agent.settings.watch s.mid_line reply new before after true
RefusesTold s reply new before after (Err (stop.Limit limit)) = ⊥
RefusesTold s reply new before after (Err stop.NoMemory) = after ≡ before
