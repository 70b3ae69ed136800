-- An agent whose rows or inputs changed, settled.
use Rattle.std.specs.Prelude.{◌≡◌, List, Some, None, Result, Ok, Err}
use Rattle.defs_soar.specs.Agents.{Agent}
use Rattle.defs_soar.specs.Cycle.{held_with}
use Rattle.defs_soar.specs.History.{RecordedFiring}
use Rattle.defs_soar.specs.Limits.{first_passed}
use Rattle.defs_soar.specs.Resettling.{AgentStep, resettled}
use Rattle.step_report.specs.Reports.{settled_events}
use Rattle.step_report.specs.declared.settled.Settled.{Settled}
use Rattle.wave_parts.specs.Remembers.{RemembersGoals}
use Rattle.wave_parts.specs.Seen.{agent_of}
use Rattle.wave_parts.specs.Stands.{Stands}
use Rattle.wave_parts.specs.declared.parts.Parts.{Parts as PartsKept}
use Rattle.soar_settle.specs.declared.stop.Stop.{Stop}
use Rattle.soar_settle.specs.declared.stop.Stop.TheVariants as stop

-- what the state holds now, settled
abbrev pub resettled_now : Agent → AgentStep
resettled_now s = resettled s (held_with s s.holding.inputs)

pub record IsResettled (new : PartsKept) (settled : Settled) (s : AgentStep) : Type 0 where
  pub stands : Stands new s.agent
  pub within : first_passed s.totals ≡ None
  pub events_are : settled_events settled ≡ s.events

abbrev pub Resettles : PartsKept → Agent → Result Settled Stop → Type 0
Resettles new s (Ok settled) = IsResettled new settled (resettled_now s)
Resettles new s (Err (stop.Limit which)) = first_passed (resettled_now s).totals ≡ Some which
Resettles new s (Err stop.NoMemory) = Unit {0}

-- ---- with one history, whatever is kept of its firings

pub record IsResettledWith (new : PartsKept) (settled : Settled) (history : List RecordedFiring) (s : AgentStep) : Type 0 where
  pub agent_is : agent_of new history ≡ s.agent
  pub remembers : RemembersGoals new history
  pub within : first_passed s.totals ≡ None
  pub events_are : settled_events settled ≡ s.events

abbrev pub ResettlesWith : PartsKept → List RecordedFiring → AgentStep → Result Settled Stop → Type 0
ResettlesWith new history s (Ok settled) = IsResettledWith new settled history s
ResettlesWith new history s (Err (stop.Limit which)) = first_passed s.totals ≡ Some which
ResettlesWith new history s (Err stop.NoMemory) = Unit {0}

-- for each history of which the goals are remembered
abbrev pub ResettlesAll : PartsKept → PartsKept → Result Settled Stop → Type 0
ResettlesAll old new result = (history : List RecordedFiring) → RemembersGoals old history → ResettlesWith new history (resettled_now (agent_of old history)) result

-- ---- what settling leaves as it is

pub record IsLeft (old new : PartsKept) : Type 0 where
  pub table : new.table ≡ old.table
  pub letters : new.letters ≡ old.letters
  pub rules : new.rules ≡ old.rules
  pub last_rule : new.last_rule ≡ old.last_rule
  pub past : new.past ≡ old.past
  pub firings : new.firings ≡ old.firings
  pub settings : new.settings ≡ old.settings
