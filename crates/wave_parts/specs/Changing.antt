-- What a wave did before all is settled: it fired, learned, took away and added. No public clause cites this.
use Rattle.std.specs.Prelude.{◌≡◌, ◌+◌, ◌≤◌, List, ◌++◌, map, flat_map, length, Some, Result, Ok, Err}
use Rattle.defs_match.specs.Rules.{rule_seen}
use Rattle.defs_soar.specs.declared.preference.Preference.{Preference}
use Rattle.defs_soar.specs.History.{RecordedFiring}
use Rattle.defs_soar.specs.Learning.{with_learning}
use Rattle.defs_soar.specs.Limits.{first_passed}
use Rattle.defs_soar.specs.Pending.{Work as WorkOf}
use Rattle.defs_soar.specs.Preferences.{without_firings}
use Rattle.defs_soar.specs.Resettling.{AgentStep}
use Rattle.defs_soar.specs.Trimming.{numbers_of}
use Rattle.defs_soar.specs.WaveAtHand.{all_fresh}
use Rattle.defs_soar.specs.Waves.{is_spent, live_of, rows_added, wave_of, without_spent}
use Rattle.firing_records.specs.Recorded.{recorded_seen}
use Rattle.live_firings.specs.Living.{live_seen}
use Rattle.live_firings.specs.declared.live.Live.{Live}
use Rattle.pending_work.specs.Firables.{IsPending}
use Rattle.pending_work.specs.declared.work.Work.{Work}
use Rattle.soar_settle.specs.Renewal.{RenewsRows}
use Rattle.soar_settle.specs.declared.stop.Stop.{Stop}
use Rattle.soar_settle.specs.declared.stop.Stop.TheVariants as stop
use Rattle.wave_learning.specs.Entries.{entry_seen, told_events}
use Rattle.wave_learning.specs.Entry.{Entry}
use Rattle.wave_firings.specs.Listed.{events_in, recorded_in, rows_in}
use Rattle.wave_parts.specs.Carrying.{IsPendingIn}
use Rattle.wave_parts.specs.Living.{still_live}
use Rattle.wave_parts.specs.Programs.{numbers_where, program_of}
use Rattle.wave_parts.specs.Remembers.{Remembers}
use Rattle.wave_parts.specs.Seen.{IsSound, agent_of}
use Rattle.wave_parts.specs.WaveParts.{ended_in}
use Rattle.wave_parts.specs.Working.{HoldsWave, IsWorkedFrom, IsWorkedOut}
use Rattle.wave_parts.specs.declared.changing.WaveChange.{WaveChange}
use Rattle.wave_parts.specs.declared.parts.Parts.{Parts as PartsKept}

-- the limit is the first that the step passes
abbrev pub StopsAs : AgentStep → Stop → Type 0
StopsAs s (stop.Limit limit) = first_passed s.totals ≡ Some limit
StopsAs s stop.NoMemory = Unit {0}

-- the parts with what the wave came to, what its entries leave, and what they are after what went and came
pub record HasChanged (old mid : PartsKept) (work : Work) (change : WaveChange) : Type 0 where
  pub worked : PartsKept
  pub entries : List Entry
  pub rows : List Preference
  pub live : List Live
  pub pending : IsPendingIn old work
  pub few_waves : old.waves + 1 ≤ 18446744073709551615
  pub few_retractions : old.retractions + length work.retracted ≤ 18446744073709551615
  pub answer : (history : List RecordedFiring) → Remembers old history → (w : WorkOf) → IsPending (map rule_seen old.rules) old.memory.elements work w
      → HoldsWave old worked entries change.halted (ended_in (agent_of old history) w)
  pub from : IsWorkedFrom old worked
  pub out : IsWorkedOut old worked (map entry_seen entries)
  pub rows_are : rows ≡ rows_in (map entry_seen entries)
  pub live_are : map live_seen live ≡ map live_of (all_fresh (map entry_seen entries))
  pub recorded_are : map recorded_seen change.recorded ≡ recorded_in (map entry_seen entries)
  pub told_are : flat_map told_events change.told ≡ events_in (map entry_seen entries)
  pub same : mid ≡ record worked { rules = mid.rules; chains = mid.chains; prefs = mid.prefs; live = mid.live; waves = mid.waves; retractions = mid.retractions }
  pub waves_are : mid.waves ≡ old.waves + 1
  pub retractions_are : mid.retractions ≡ old.retractions + length work.retracted
  pub program_is : program_of mid ≡ without_spent (map live_seen work.retracted) (program_of worked)
  pub renews : RenewsRows worked.prefs mid.prefs (numbers_of (map live_seen work.retracted)) rows
  pub lives : map live_seen mid.live.list ≡ still_live (numbers_of (map live_seen work.retracted)) (map live_seen worked.live.list) ++ map live_seen live
  pub added_is : change.added ≡ rows_added (without_firings worked.prefs.rows (numbers_of (map live_seen work.retracted))) rows
  pub spent_is : change.spent ≡ numbers_where (is_spent (map live_seen work.retracted)) (map rule_seen worked.rules)
  pub sound : IsSound mid

-- each answer, exactly where it comes; only want of memory is free
abbrev pub Changes : PartsKept → PartsKept → Work → Result WaveChange Stop → Type 0
Changes old mid work (Ok change) = HasChanged old mid work change
Changes old mid work (Err why) =
    (history : List RecordedFiring) → Remembers old history → (w : WorkOf) → IsPending (map rule_seen old.rules) old.memory.elements work w
    → StopsAs (wave_of with_learning (agent_of old history) w) why
