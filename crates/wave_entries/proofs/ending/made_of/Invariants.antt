use Rattle.std.proofs.Common.{◌≡◌, map, flat_map}
use Rattle.firing_records.specs.Recorded.{recorded_seen}
use Rattle.live_firings.specs.Living.{live_seen}
use Rattle.wave_entries.specs.Entries.{told_events}
use Rattle.wave_entries.specs.Left.{events_left, live_left, recorded_left, rows_left}
use Rattle.wave_entries.proofs.ending.made_of.Given as goal

abbrev pub invariant-entries : goal.invariant-entries
invariant-entries l = record {
  rows : l.made.rows ≡ flat_map rows_left l.yielded;
  live : map live_seen l.made.live ≡ flat_map live_left l.yielded;
  recorded : map recorded_seen l.made.recorded ≡ flat_map recorded_left l.yielded;
  told : flat_map told_events l.made.told ≡ flat_map events_left l.yielded;
}
