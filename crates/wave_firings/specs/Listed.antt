-- What the entries of a wave leave, as `made_of` of wave_entries takes them apart.
use Rattle.std.specs.Prelude.{List, map, flat_map}
use Rattle.defs_soar.specs.declared.preference.Preference.{Preference}
use Rattle.defs_soar.specs.declared.preference.Wish.{Wish}
use Rattle.defs_soar.specs.Events.{Event}
use Rattle.defs_soar.specs.WaveAtHand.{Entry, Fresh, all_fresh}
use Rattle.defs_soar.specs.Waves.{entry_events, rows_of_fresh}
use Rattle.firing_records.specs.Recorded.{RecordedAs, fresh_seen}

-- the rows that the firings hold themselves
abbrev pub rows_in : List Entry → List Preference
rows_in entries = flat_map rows_of_fresh (all_fresh entries)

-- the firings as they are recorded
abbrev pub recorded_in : List Entry → List RecordedAs
recorded_in entries = map fresh_seen (all_fresh entries)

-- what is told
abbrev pub events_in : List Entry → List Event
events_in entries = flat_map entry_events entries

-- the preferences that the firings made, however they are held
abbrev pub wishes_in : List Entry → List Wish
wishes_in entries = flat_map (λ (x : Fresh). x.firing.made) (all_fresh entries)
