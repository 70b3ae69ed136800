-- A step that settles, and what can be told of it.
use Rattle.std.specs.Prelude.{◌≡◌, List, ◌++◌, Some, Result, Ok, Err}
use Rattle.defs_soar.specs.Events.{Event}
use Rattle.defs_soar.specs.Limits.{first_passed}
use Rattle.defs_soar.specs.Resettling.{AgentStep}
use Rattle.soar_settle.specs.declared.stop.Stop.{Stop}
use Rattle.soar_settle.specs.declared.stop.Stop.TheVariants as stop
use Rattle.step_report.specs.Reports.{settled_events}
use Rattle.step_report.specs.declared.settled.Settled.{Settled}
use Rattle.decision_parts.specs.Seen.{Stepped}
use Rattle.decision_parts.specs.Parts.{Parts as PartsKept}

-- the parts stand for the state after the step, which told these events and then what settling did
pub record HasSettled (first : List Event) (s : AgentStep) (new : PartsKept) (settled : Settled) : Type 0 where
  pub stepped : Stepped new s
  pub events_are : first ++ settled_events settled ≡ s.events

-- each answer, exactly where it comes; only want of memory is free
abbrev pub Settles : List Event → AgentStep → PartsKept → Result Settled Stop → Type 0
Settles first s new (Ok settled) = HasSettled first s new settled
Settles first s new (Err (stop.Limit limit)) = first_passed s.totals ≡ Some limit
Settles first s new (Err stop.NoMemory) = Unit {0}
