-- The session of the definitions that the code's session stands for, and what the code's session answers that stands for none.
use Rattle.std.specs.Prelude.{◌≡◌, ℕ, List, map, Some, Result, Err}
use Rattle.defs_soar.specs.History.{RecordedFiring}
use Rattle.defs_run.specs.Sessions.{Session}
use Rattle.soar_settle.specs.declared.stop.Stop.{Stop}
use Rattle.soar_cycle.specs.Lawful.{IsOfLawful}
use Rattle.soar_cycle.specs.Seen.{IsSound, agent_of}
use Rattle.soar_cycle.specs.Agents.{stop_of}
use Rattle.soar_cycle.specs.declared.standing.Standing.{Standing}
use Rattle.soar_cycle.specs.declared.standing.Standing.TheVariants as standing
use Rattle.command_labels.specs.Found.{label_seen}
use Rattle.soar_agent.specs.Numbered.{AreLabelsNumbered}
use Rattle.soar_agent.specs.declared.state.Session.{Session as SessionKept}

-- with this history of firings
abbrev pub session_of : {M : Type 0} → SessionKept M → List RecordedFiring → Session
session_of s history = record { agent = agent_of s.agent.parts history; labels = map label_seen s.labels; mid_line = s.agent.mid_line }

-- the agent stands for a state, its parts are sound and stand for a lawful one, and its letters gave the identifiers that labels stand for
abbrev pub IsReady : {M : Type 0} → SessionKept M → Type 0
IsReady s = (s.agent.standing ≡ standing.Stands) × IsSound s.agent.parts × IsOfLawful s.agent.parts × AreLabelsNumbered s.agent.parts.letters s.labels

-- so it is with a session that stands for one
abbrev pub IsSoundSession : {M : Type 0} → SessionKept M → Type 0
IsSoundSession s = s.standing ≡ standing.Stands → IsReady s

-- a session that stands for none gives its answer again, and appends nothing
abbrev pub StaysStopped : {T : Type 0} → Standing → List ℕ → List ℕ → Result T Stop → Type 0
StaysStopped s before after result = (why : Stop) → stop_of s ≡ Some why → (result ≡ Err why) × (after ≡ before)
