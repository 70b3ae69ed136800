use Rattle.std.proofs.Common.{map, take}
use Rattle.wave_entries.specs.Entries.{held_event}
use Rattle.step_report.specs.Saying.{SaysEvents}
use Rattle.step_report.proofs.fired.say_wishes.Given as goal

abbrev pub invariant-wishes : goal.invariant-wishes
invariant-wishes l = SaysEvents l.watch l.table (map held_event (take l.held-index l.wishes)) l.initial.mid_line l.initial.out l.mid_line l.out
