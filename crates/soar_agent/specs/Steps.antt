-- What a step of the session leaves, and what it appends.
use Rattle.std.specs.Prelude.{◌≡◌, ℕ, Bool, List, ◌++◌, Some, None}
use Rattle.defs_soar.specs.declared.limit.Which.{Which}
use Rattle.defs_soar.specs.History.{RecordedFiring}
use Rattle.defs_soar.specs.Trace.{Written}
use Rattle.defs_run.specs.Sessions.{Reply}
use Rattle.soar_cycle.specs.Remembers.{Remembers}
use Rattle.soar_agent.specs.States.{IsReady, session_of}
use Rattle.soar_agent.specs.Telling.{limit_told, front_told}
use Rattle.soar_agent.specs.declared.state.Session.{Session as SessionKept}

-- what a reply writes at a watch level, behind text that ended in the middle of a line or not
abbrev pub written_of : ℕ → Bool → Reply → Written
written_of watch mid reply = front_told watch mid reply.told

-- the step passed no limit, its lines were appended, and it was refused or not
pub record Replied {M : Type 0} (watch : ℕ) (mid : Bool) (reply : Reply) (new : SessionKept M) (before after : List ℕ) (answer : Bool) : Type 0 where
  pub history : List RecordedFiring
  pub remembers : Remembers new.agent.parts history
  pub session : session_of new history ≡ record reply.session { mid_line = (written_of watch mid reply).mid_line }
  pub within : limit_told reply.told ≡ None
  pub text : after ≡ before ++ (written_of watch mid reply).text
  pub refused : answer ≡ reply.refused
  pub kept : IsReady new

-- the limit is the first that the step passes, and what it did before was appended
pub record Stops {M : Type 0} (watch : ℕ) (mid : Bool) (reply : Reply) (new : SessionKept M) (before after : List ℕ) (limit : Which) : Type 0 where
  pub passed : limit_told reply.told ≡ Some limit
  pub text : after ≡ before ++ (written_of watch mid reply).text
  pub mid_line : new.agent.mid_line ≡ (written_of watch mid reply).mid_line
