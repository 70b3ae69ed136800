-- What the parts of an agent keep of the history of firings, which is not stored as such.
use Rattle.std.specs.Prelude.{◌≡◌, ℕ, List, ◌++◌, drop, map, flat_map, Some}
use Rattle.soar_sym.specs.declared.symbol.Sym.{Sym}
use Rattle.defs_soar.specs.History.{RecordedFiring}
use Rattle.defs_soar.specs.Laws.{IsIn}
use Rattle.defs_soar.specs.Standing.{dependencies_from, makers_of_goal}
use Rattle.learning_laws.specs.LawfulAgents.{IsNumbered}
use Rattle.agent_laws.specs.Dependence.{MakersAreEarlier, firings_in}
use Rattle.agent_laws.specs.Records.{IsPartOf}
use Rattle.dependency_tables.specs.Tables.{tables_of}
use Rattle.live_firings.specs.Living.{live_seen}
use Rattle.record_laws.specs.Closed.{HasMakers}
use Rattle.soar_record.specs.Recorded.{recorded}
use Rattle.wave_firings.specs.Numbered.{AreRecordedUpTo}
use Rattle.wave_parts.specs.declared.parts.Parts.{Parts as PartsKept}

-- the match goal of each firing was given by the letters
abbrev pub PastGoalsAreNumbered : List ℕ → List RecordedFiring → Type 0
PastGoalsAreNumbered letters history = (p : RecordedFiring) (s : Sym) → IsIn p history → p.goal ≡ Some s → IsNumbered letters s

-- the firings at which explanations begin: the live firings, those of rows, and those that a selection rests on
abbrev pub roots_in : PartsKept → List ℕ
roots_in a = map (λ l. l.number) (map live_seen a.live.list) ++ (map (λ row. row.firing) a.prefs.rows ++ flat_map makers_of_goal a.goals)

-- of the firings all that the roots reach, with the makers of each that is kept, tables of the tags on which each goal below the top depends, and that the letters gave the
-- goals; the numbers of all firings were given, those of makers before those of users
pub record Remembers (a : PartsKept) (history : List RecordedFiring) : Type 0 where
  pub is_record : IsPartOf (recorded a.past) (firings_in history) (roots_in a)
  pub makers_kept : HasMakers (recorded a.past)
  pub numbers_given : AreRecordedUpTo a.firings (firings_in history)
  pub makers_earlier : MakersAreEarlier (firings_in history)
  pub depends_are : a.depends ≡ tables_of (dependencies_from history 2 (drop 1 a.goals))
  pub goals_numbered : PastGoalsAreNumbered a.letters history

-- what settling goes by
pub record RemembersGoals (a : PartsKept) (history : List RecordedFiring) : Type 0 where
  pub depends_are : a.depends ≡ tables_of (dependencies_from history 2 (drop 1 a.goals))
  pub goals_numbered : PastGoalsAreNumbered a.letters history
