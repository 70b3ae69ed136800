-- A session between two commands, that stands for a state.
use Rattle.std.specs.Prelude.{◌≡◌}
use Rattle.soar_agent.specs.Standing.TheVariants as standing
use Rattle.soar_agent.specs.States.{IsReady}
use Rattle.soar_agent.specs.declared.state.Session.{Session as SessionKept}

abbrev pub IsReadySession : {M : Type 0} → SessionKept M → Type 0
IsReadySession s = (s.standing ≡ standing.Stands) × IsReady s
