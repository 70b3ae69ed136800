-- What a step can tell, as events.
use Rattle.std.specs.Prelude.{List, ◌++◌, map, flat_map}
use Rattle.defs_soar.specs.Events.{Event, comes, goes}
use Rattle.defs_soar.specs.Resettling.{removal_events}
use Rattle.defs_soar.specs.Trimming.{RemovedGoal}
use Rattle.defs_soar.specs.Waves.{retract_event}
use Rattle.wave_entries.specs.Living.{live_seen}
use Rattle.wave_entries.specs.Entries.{told_events}
use Rattle.step_report.specs.declared.report.Report.{Report}
use Rattle.step_report.specs.declared.settled.Removed.{Removed}
use Rattle.step_report.specs.declared.settled.Settled.{Settled}

abbrev pub removed_seen : Removed → RemovedGoal
removed_seen r = record { id = r.goal; depth = r.depth }

-- what settling tells
abbrev pub settled_events : Settled → List Event
settled_events s = removal_events (map removed_seen s.removed) ++ (map goes s.changes.gone ++ map comes s.changes.new)

-- what a wave tells
abbrev pub report_events : Report → List Event
report_events r = map retract_event (map live_seen r.retracted) ++ (flat_map told_events r.fired ++ settled_events r.settled)
