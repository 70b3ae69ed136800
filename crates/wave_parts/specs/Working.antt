-- What the work of a wave comes to with what is learned from it, as the parts of an agent hold it.
use Rattle.std.specs.Prelude.{◌≡◌, ◌≤◌, true, Bool, List, ◌++◌, map, Some, None, Result, Ok, Err}
use Rattle.soar_fire.specs.Growth.{Grown, LettersKeep}
use Rattle.soar_rule.specs.AsItStands.{can_be_matched}
use Rattle.soar_choose.specs.Rows.{AreInRange}
use Rattle.soar_settle.specs.Known.{AreRowsKnown}
use Rattle.soar_settle.specs.declared.stop.Stop.{Stop}
use Rattle.soar_settle.specs.declared.stop.Stop.TheVariants as stop
use Rattle.trace_laws.specs.Events.{AreEventsKnown}
use Rattle.defs_match.specs.Rules.{RuleOf, rule_seen}
use Rattle.defs_soar.specs.History.{FiringOf, RecordedFiring}
use Rattle.defs_soar.specs.Laws.{IsIn}
use Rattle.defs_soar.specs.Limits.{first_passed}
use Rattle.defs_soar.specs.Pending.{Work as WorkOf}
use Rattle.defs_soar.specs.WaveAtHand.{Entry as EntryOf, Fresh, Wave, all_fresh}
use Rattle.defs_soar.specs.Waves.{live_of}
use Rattle.agent_laws.specs.Records.{AreRisingFrom}
use Rattle.program_laws.specs.Knowing.{AreNamed}
use Rattle.program_laws.specs.Taught.{AreNext}
use Rattle.firing_records.specs.Recorded.{Standing}
use Rattle.pending_work.specs.Firables.{IsPending}
use Rattle.pending_work.specs.declared.work.Work.{Work}
use Rattle.wave_learning.specs.Entries.{entry_seen}
use Rattle.wave_learning.specs.Entry.{Entry}
use Rattle.wave_firings.specs.Listed.{events_in, recorded_in, rows_in}
use Rattle.wave_firings.specs.Numbered.{AreGoalsOf, AreMakersUpTo, AreOfFirings, AreRecordedUpTo}
use Rattle.wave_parts.specs.Programs.{program_of}
use Rattle.wave_parts.specs.Remembers.{Remembers}
use Rattle.wave_parts.specs.Seen.{AreLiveGiven, AreLiveKnown, IsSound, agent_of}
use Rattle.wave_parts.specs.WaveParts.{ended_in}
use Rattle.wave_parts.specs.declared.parts.Parts.{Parts as PartsKept}
use Rattle.wave_parts.specs.declared.working.WaveWorked.{WaveWorked}

-- what is there before the wave
abbrev pub standing_now : PartsKept → Standing
standing_now a = record { goals = a.goals; rows = a.prefs.rows; elements = a.memory.elements }

-- ---- answers

-- the parts, these entries and this halt are what the wave came to
pub record HoldsWave (old new : PartsKept) (entries : List Entry) (halted : Bool) (v : Wave) : Type 0 where
  pub words_are : new.table ≡ v.names.words
  pub letters_are : new.letters ≡ v.names.letters
  pub last_tag_is : old.memory.last ≡ v.names.last_tag
  pub program_is : program_of new ≡ v.program
  pub firings_are : new.firings ≡ v.last_firing
  pub learned_is : new.learned ≡ v.learned
  pub entries_are : map entry_seen entries ≡ v.entries
  pub halted_is : halted ≡ v.halted
  pub within : first_passed v.totals ≡ None

abbrev pub Works : PartsKept → PartsKept → Result WaveWorked Stop → Wave → Type 0
Works old new (Ok worked) v = HoldsWave old new worked.entries worked.halted v
Works old new (Err (stop.Limit which)) v = first_passed v.totals ≡ Some which
Works old new (Err stop.NoMemory) v = Unit {0}

-- with each history that is remembered, for the work that this stands for
abbrev pub WorksOut : PartsKept → PartsKept → Work → Result WaveWorked Stop → Type 0
WorksOut old new work result =
    (history : List RecordedFiring) → Remembers old history → (w : WorkOf) → IsPending (map rule_seen old.rules) old.memory.elements work w
    → Works old new result (ended_in (agent_of old history) w)

-- words and letters may have grown, rules may have joined and firings are counted, and nothing else changed
pub record IsWorkedFrom (old new : PartsKept) : Type 0 where
  pub words : Grown old.table new.table
  pub letters : LettersKeep old.letters new.letters
  pub same : new ≡ record old {
    table = new.table;
    letters = new.letters;
    rules = new.rules;
    last_rule = new.last_rule;
    chains = new.chains;
    chunks = new.chunks;
    justifications = new.justifications;
    firings = new.firings;
    learned = new.learned;
  }

-- ---- what fits

abbrev pub firings_at : List EntryOf → List FiringOf
firings_at entries = map (λ (x : Fresh). x.firing) (all_fresh entries)

-- what the entries leave is known, in range, and of firings and rules of numbers that were given
pub record AreFit (old new : PartsKept) (entries : List EntryOf) : Type 0 where
  pub rows_known : AreRowsKnown new.table (rows_in entries)
  pub rows_in_range : AreInRange (rows_in entries)
  pub rows_of_firings : AreOfFirings new.firings (rows_in entries)
  pub live_known : AreLiveKnown new.table (map live_of (all_fresh entries))
  pub live_given : AreLiveGiven new.last_rule (map live_of (all_fresh entries))
  pub events_known : AreEventsKnown new.table (events_in entries)
  pub named : AreNamed new.table (firings_at entries)
  pub rising : AreRisingFrom old.firings (firings_at entries)
  pub recorded_up_to : AreRecordedUpTo new.firings (firings_at entries)
  pub makers : AreMakersUpTo old.firings (recorded_in entries)
  pub goals : AreGoalsOf old.goals (recorded_in entries)

-- rules joined behind the others, under the next numbers, and can be matched as they stand
pub record HaveJoined (old new : PartsKept) : Type 0 where
  pub taught : List RuleOf
  pub rules_are : map rule_seen new.rules ≡ map rule_seen old.rules ++ taught
  pub numbers : AreNext old.last_rule taught new.last_rule
  pub matchable : (rule : RuleOf) → IsIn rule taught → can_be_matched rule.production ≡ true

pub record IsWorkedOut (old new : PartsKept) (entries : List EntryOf) : Type 0 where
  pub fit : AreFit old new entries
  pub joined : HaveJoined old new
  pub counted : old.firings ≤ new.firings
  pub sound : IsSound new
