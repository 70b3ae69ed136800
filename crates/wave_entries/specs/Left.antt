-- What one entry of a wave leaves. No public clause cites this.
use Rattle.std.specs.Prelude.{ℕ, List, map, flat_map}
use Rattle.defs_soar.specs.declared.preference.Preference.{Preference}
use Rattle.defs_soar.specs.Agents.{LiveFiring}
use Rattle.defs_soar.specs.Events.{Event}
use Rattle.defs_soar.specs.History.{FiringOf}
use Rattle.defs_soar.specs.WaveAtHand.{fresh_of}
use Rattle.defs_soar.specs.Waves.{entry_events, held_row, live_of, rows_of_fresh}
use Rattle.firing_records.specs.Recorded.{RecordedAs, fresh_seen as fresh_recorded}
use Rattle.wave_entries.specs.Entries.{entry_seen, held_seen}
use Rattle.wave_entries.specs.declared.entry.Entry.{Entry}
use Rattle.wave_entries.specs.declared.entry.HeldWish.{HeldWish}

-- the row of a preference, where its firing holds it itself
abbrev pub row_held : ℕ → HeldWish → List Preference
row_held number h = held_row number (held_seen h)

-- a firing as it is live
abbrev pub live_as : FiringOf → LiveFiring
live_as f = record { number = f.number; name = f.name; depth = f.depth; instance = f.instance }

abbrev pub rows_left : Entry → List Preference
rows_left e = flat_map rows_of_fresh (fresh_of (entry_seen e))

abbrev pub live_left : Entry → List LiveFiring
live_left e = map live_of (fresh_of (entry_seen e))

abbrev pub recorded_left : Entry → List RecordedAs
recorded_left e = map fresh_recorded (fresh_of (entry_seen e))

abbrev pub events_left : Entry → List Event
events_left e = entry_events (entry_seen e)
