-- Settling where goals went before.
use Rattle.std.specs.Prelude.{◌≡◌, List, Some, Result, Ok, Err}
use Rattle.defs_soar.specs.Agents.{Agent}
use Rattle.defs_soar.specs.Limits.{first_passed}
use Rattle.defs_soar.specs.Trimming.{RemovedGoal}
use Rattle.soar_settle.specs.declared.stop.Stop.{Stop}
use Rattle.soar_settle.specs.declared.stop.Stop.TheVariants as stop
use Rattle.step_report.specs.declared.settled.Settled.{Settled}
use Rattle.wave_parts.specs.Resettles.{IsResettled}
use Rattle.wave_parts.specs.declared.parts.Parts.{Parts as PartsKept}
use Rattle.decision_parts.specs.Deciding.{settled_from}

-- each answer, exactly where it comes; only want of memory is free
abbrev pub SettlesFrom : PartsKept → Agent → List RemovedGoal → Result Settled Stop → Type 0
SettlesFrom new s removed (Ok settled) = IsResettled new settled (settled_from s removed)
SettlesFrom new s removed (Err (stop.Limit which)) = first_passed (settled_from s removed).totals ≡ Some which
SettlesFrom new s removed (Err stop.NoMemory) = Unit {0}
