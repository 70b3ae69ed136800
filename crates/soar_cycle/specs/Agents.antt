-- An agent as its callers see it: its parts, whether what it wrote ends in the middle of a line, and whether it stands for a state.
use Rattle.std.specs.Prelude.{◌≡◌, Bool, List, Option, Some, None, Result, Ok, Err}
use Rattle.soar_sym.specs.Words.{Texts}
use Rattle.soar_wm.specs.declared.element.Element.{Element}
use Rattle.defs_match.specs.Rules.{RuleOf}
use Rattle.live_firings.specs.declared.live.Live.{Live}
use Rattle.soar_settle.specs.declared.stop.Stop.{Stop}
use Rattle.soar_settle.specs.declared.stop.Stop.TheVariants as stop
use Rattle.cycle_phases.specs.Lawful.{IsOfLawful}
use Rattle.cycle_phases.specs.Seen.{IsSound}
use Rattle.cycle_phases.specs.Parts.{Parts as PartsKept}
use Rattle.cycle_phases.specs.Bonds.{Bond}
use Rattle.soar_cycle.specs.declared.standing.Standing.{Standing}
use Rattle.soar_cycle.specs.declared.standing.Standing.TheVariants as standing

pub record AgentSeen : Type 0 where
  pub parts : PartsKept
  pub mid_line : Bool
  pub standing : Standing

abbrev pub agent_seen : PartsKept → Bool → Standing → AgentSeen
agent_seen parts mid_line standing = record { parts = parts; mid_line = mid_line; standing = standing }

-- while it stands for a state, its matcher holds the rules and working memory, and knows the live firings that were told
abbrev pub IsBound : List RuleOf → List Element → Bool → (List Live → Type 0) → PartsKept → Standing → Type 0
IsBound rules elements failed knows parts s = s ≡ standing.Stands → Bond rules elements failed knows parts

-- while it stands for a state, its parts are sound, and stand for a lawful one
abbrev pub IsSoundAgent : AgentSeen → Type 0
IsSoundAgent a = a.standing ≡ standing.Stands → IsSound a.parts × IsOfLawful a.parts

-- ---- the answers of an agent that stands for no state

-- what it answers: after want of memory that again, after a limit the same limit again
abbrev pub stop_of : Standing → Option Stop
stop_of standing.Stands = None
stop_of standing.OutOfMemory = Some stop.NoMemory
stop_of (standing.PastLimit limit) = Some (stop.Limit limit)

abbrev pub IsStopped : {T : Type 0} → Standing → Result T Stop → Type 0
IsStopped s result = (why : Stop) → stop_of s ≡ Some why → result ≡ Err why

-- what stands for no state stays as it is
abbrev pub StaysAsItIs : {T : Type 0} → Standing → T → T → Type 0
StaysAsItIs s old new = (why : Stop) → stop_of s ≡ Some why → new ≡ old

-- what an answer leaves
abbrev pub standing_after : {T : Type 0} → Standing → Result T Stop → Standing
standing_after s (Ok done) = s
standing_after s (Err stop.NoMemory) = standing.OutOfMemory
standing_after s (Err (stop.Limit limit)) = standing.PastLimit limit

-- the agent with another table
abbrev pub with_table : AgentSeen → Texts → AgentSeen
with_table a table = record a { parts = record a.parts { table = table } }
