-- The entries of a wave at hand as plain data, and what is told of them.
use Rattle.std.specs.Prelude.{List, ◌∷◌, ◌++◌, map}
use Rattle.defs_soar.specs.Events.{Event, drops, fires, learning, makes_wish}
use Rattle.defs_soar.specs.History.{firing_seen}
use Rattle.defs_soar.specs.WaveAtHand.{Entry as EntryOf, Fresh as FreshOf, SupportedWish, fired, noted}
use Rattle.defs_soar.specs.Waves.{text_events}
use Rattle.trace_details.specs.Details.{support_of}
use Rattle.trace_details.specs.Lessons.{lesson_seen}
use Rattle.wave_entries.specs.declared.entry.Entry.{Entry}
use Rattle.wave_entries.specs.declared.entry.Entry.TheVariants as entry
use Rattle.wave_entries.specs.declared.entry.Fresh.{Fresh}
use Rattle.wave_entries.specs.declared.entry.Heading.{Heading}
use Rattle.wave_entries.specs.declared.entry.Heading.TheVariants as heading
use Rattle.wave_entries.specs.declared.entry.HeldWish.{HeldWish}
use Rattle.wave_entries.specs.declared.entry.Told.{Told}

abbrev pub held_seen : HeldWish → SupportedWish
held_seen h = record { wish = h.wish; wish_support = support_of h.by }

abbrev pub heading_event : Heading → Event
heading_event (heading.Fires number name i) = fires number name i
heading_event (heading.Learns lesson) = learning (lesson_seen lesson)

abbrev pub fresh_at_hand : Fresh → FreshOf
fresh_at_hand x = record {
  firing = firing_seen x.recorded.firing;
  goal = x.recorded.goal;
  operator_kind = x.recorded.operator_kind;
  heading = heading_event x.told.heading;
  wishes = map held_seen x.told.wishes;
  dropped = x.told.dropped;
  text = x.told.text;
}

abbrev pub entry_seen : Entry → EntryOf
entry_seen (entry.Fired x) = fired (fresh_at_hand x)
entry_seen (entry.Noted lesson) = noted (lesson_seen lesson)

-- a preference under its firing
abbrev pub held_event : HeldWish → Event
held_event h = makes_wish h.wish (support_of h.by)

abbrev pub told_events : Told → List Event
told_events t = heading_event t.heading ∷ (map held_event t.wishes ++ (map drops t.dropped ++ text_events t.text))
