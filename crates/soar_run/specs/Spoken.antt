-- What the code's session stands for, and what it answers to a command of a run.
use Rattle.std.specs.Prelude.{◌≡◌, List}
use Rattle.defs_soar.specs.History.{RecordedFiring}
use Rattle.defs_run.specs.Sessions.{Session}
use Rattle.soar_agent.specs.Remembers.{Remembers}
use Rattle.soar_agent.specs.States.{session_of}
use Rattle.soar_agent.specs.declared.state.Session.{Session as SessionKept}

-- with some history of firings that it remembers, the code's session is this one
pub record StandsFor {M : Type 0} (kept : SessionKept M) (s : Session) : Type 0 where
  pub history : List RecordedFiring
  pub remembers : Remembers kept.agent.parts history
  pub session : session_of kept history ≡ s
