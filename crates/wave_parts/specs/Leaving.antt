-- The parts after a wave took away what it retracted and added what it made. No public clause cites this.
use Rattle.std.specs.Prelude.{◌≡◌, List, ◌++◌, map, Result, Ok, Err}
use Rattle.defs_match.specs.Rules.{rule_seen}
use Rattle.defs_soar.specs.declared.preference.Preference.{Preference}
use Rattle.defs_soar.specs.Agents.{LiveFiring}
use Rattle.defs_soar.specs.Preferences.{without_firings}
use Rattle.defs_soar.specs.Trimming.{numbers_of}
use Rattle.defs_soar.specs.Waves.{is_spent, rows_added, without_spent}
use Rattle.live_firings.specs.Living.{live_seen}
use Rattle.live_firings.specs.declared.live.Live.{Live}
use Rattle.soar_choose.specs.Rows.{AreInRange}
use Rattle.soar_settle.specs.Known.{AreRowsKnown}
use Rattle.soar_settle.specs.Renewal.{Renews, RenewsRows}
use Rattle.soar_settle.specs.declared.stop.Stop.{Stop}
use Rattle.wave_firings.specs.Numbered.{AreOfFirings}
use Rattle.wave_parts.specs.Living.{still_live}
use Rattle.wave_parts.specs.Programs.{numbers_where, program_of}
use Rattle.wave_parts.specs.Seen.{AreLiveGiven, AreLiveKnown, IsSound}
use Rattle.wave_parts.specs.declared.leaving.WaveLeft.{WaveLeft}
use Rattle.wave_parts.specs.declared.parts.Parts.{Parts as PartsKept}

-- what the wave made fits the parts
pub record IsMadeFit (a : PartsKept) (made : List Preference) (live : List LiveFiring) : Type 0 where
  pub rows_known : AreRowsKnown a.table made
  pub rows_in_range : AreInRange made
  pub rows_of_firings : AreOfFirings a.firings made
  pub live_known : AreLiveKnown a.table live
  pub live_given : AreLiveGiven a.last_rule live

pub record HasLeft (old new : PartsKept) (retracted : List Live) (rows : List Preference) (live : List Live) (left : WaveLeft) : Type 0 where
  pub program_is : program_of new ≡ without_spent (map live_seen retracted) (program_of old)
  pub renews : RenewsRows old.prefs new.prefs (numbers_of (map live_seen retracted)) rows
  pub lives : map live_seen new.live.list ≡ still_live (numbers_of (map live_seen retracted)) (map live_seen old.live.list) ++ map live_seen live
  pub added_is : left.added ≡ rows_added (without_firings old.prefs.rows (numbers_of (map live_seen retracted))) rows
  pub spent_is : left.spent ≡ numbers_where (is_spent (map live_seen retracted)) (map rule_seen old.rules)
  pub sound : IsSound new

-- each answer, exactly where it comes; only want of memory is free
abbrev pub LeavesHere : PartsKept → PartsKept → List Live → List Preference → List Live → Result WaveLeft Stop → Type 0
LeavesHere old new retracted rows live (Ok left) = HasLeft old new retracted rows live left
LeavesHere old new retracted rows live (Err why) = Renews old.prefs new.prefs (numbers_of (map live_seen retracted)) rows (Err why)
