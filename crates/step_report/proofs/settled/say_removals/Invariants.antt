use Rattle.std.proofs.Common.{map, take}
use Rattle.defs_soar.specs.Resettling.{removal_events}
use Rattle.step_report.specs.Reports.{removed_seen}
use Rattle.step_report.specs.Saying.{SaysEvents}
use Rattle.step_report.proofs.settled.say_removals.Given as goal

abbrev pub invariant-removed : goal.invariant-removed
invariant-removed l = SaysEvents l.watch l.table (removal_events (map removed_seen (take l.gone-index l.removed))) l.initial.mid_line l.initial.out l.mid_line l.out
