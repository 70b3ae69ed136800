-- What settling and the removal of broken goals leave, and what they keep in any case.
use Rattle.std.specs.Prelude.{◌≡◌, ◌≤◌, suc, List, [], take, drop, length}
use Rattle.soar_sym.specs.declared.symbol.Triple.{Triple}
use Rattle.soar_wm.specs.declared.element.Element.{Element}
use Rattle.defs_soar.specs.declared.preference.Preference.{Preference}
use Rattle.defs_soar.specs.Agents.{LiveFiring}
use Rattle.defs_soar.specs.History.{RecordedFiring}
use Rattle.defs_soar.specs.Laws.{IsIn}
use Rattle.defs_soar.specs.Settling.{kept_triples}
use Rattle.defs_soar.specs.Standing.{dependencies_from}
use Rattle.defs_soar.specs.Trimming.{Remains, supports_of, trimmed}
use Rattle.dependency_tables.specs.Tables.{tables_of}
use Rattle.goal_trimming.specs.Held.{Held}

-- the tables are of the tags on which the goals below the top depend
abbrev pub AreDependencies : List RecordedFiring → Held → Type 0
AreDependencies history h = h.depends ≡ tables_of (dependencies_from history 2 (drop 1 h.goals))

-- what may go, before any goal went
abbrev pub remains_of : Held → Remains
remains_of h = record { goals = h.goals; rows = h.prefs.rows; inputs = h.inputs; live = h.live; removed = [] }

-- what is left is what trimming leaves, and the tags are those of the goals that are left
pub record IsTrimmedTo (history : List RecordedFiring) (t : Remains) (old new : Held) (kept : List Triple) : Type 0 where
  pub goals_are : new.goals ≡ t.goals
  pub prefs_are : new.prefs ≡ record old.prefs { rows = t.rows }
  pub inputs_are : new.inputs ≡ t.inputs
  pub live_are : new.live ≡ t.live
  pub depends_are : AreDependencies history new
  pub kept_are : kept ≡ kept_triples t.goals (supports_of t)

abbrev pub Trims : List RecordedFiring → List Element → Held → Held → List Triple → Type 0
Trims history elements old new kept = IsTrimmedTo history (trimmed history elements (remains_of old)) old new kept

-- the first goals are left, with their tags, and rows, inputs and firings that there were
pub record KeepsFirst (old new : Held) : Type 0 where
  pub some : 1 ≤ length new.goals
  pub goals_are : new.goals ≡ take (length new.goals) old.goals
  pub depends_are : new.depends ≡ take (length new.depends) old.depends
  pub fits : suc (length new.depends) ≡ length new.goals
  pub rows_are : (row : Preference) → IsIn row new.prefs.rows → IsIn row old.prefs.rows
  pub fewer_rows : length new.prefs.rows ≤ length old.prefs.rows
  pub limit_is : new.prefs.limit ≡ old.prefs.limit
  pub inputs_are : (t : Triple) → IsIn t new.inputs → IsIn t old.inputs
  pub live_are : (l : LiveFiring) → IsIn l new.live → IsIn l old.live
