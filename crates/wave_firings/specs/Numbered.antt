-- Numbers of firings that were given, and how firings are recorded under them.
use Rattle.std.specs.Prelude.{◌≡◌, ℕ, suc, ◌≤◌, List, [], ◌∷◌, flat_map, Some}
use Rattle.soar_sym.specs.declared.symbol.Sym.{Sym}
use Rattle.defs_soar.specs.declared.goal.Goal.{Goal}
use Rattle.defs_soar.specs.declared.goal.Selection.{Selection}
use Rattle.defs_soar.specs.declared.preference.Preference.{Preference}
use Rattle.defs_soar.specs.Explanation.{maker_named}
use Rattle.defs_soar.specs.Goals.{goal_ids}
use Rattle.defs_soar.specs.History.{FiringOf}
use Rattle.defs_soar.specs.Laws.{IsIn}
use Rattle.firing_records.specs.Recorded.{RecordedAs}

-- each row is of a firing of a number up to this one
abbrev pub AreOfFirings : ℕ → List Preference → Type 0
AreOfFirings last rows = (row : Preference) → IsIn row rows → row.firing ≤ last

-- so is the maker of each selected operator
abbrev pub AreMakersOfFirings : ℕ → List Goal → Type 0
AreMakersOfFirings last goals = (g : Goal) (s : Selection) → IsIn g goals → g.selected ≡ Some s → s.maker ≤ last

-- so is each firing that is recorded
abbrev pub AreRecordedUpTo : ℕ → List FiringOf → Type 0
AreRecordedUpTo last firings = (f : FiringOf) → IsIn f firings → f.number ≤ last

-- ---- the firings of a wave

-- their numbers are those after this one, in order
abbrev pub AreNumberedAfter : ℕ → List RecordedAs → Type 0
AreNumberedAfter last [] = Unit {0}
AreNumberedAfter last (r ∷ recorded) = (r.firing.number ≡ suc last) × AreNumberedAfter (suc last) recorded

-- each used what firings of numbers up to this one made
abbrev pub AreMakersUpTo : ℕ → List RecordedAs → Type 0
AreMakersUpTo last recorded = (r : RecordedAs) (n : ℕ) → IsIn r recorded → IsIn n (flat_map maker_named r.firing.used) → n ≤ last

-- the match goal of each is one of the goals
abbrev pub AreGoalsOf : List Goal → List RecordedAs → Type 0
AreGoalsOf goals recorded = (r : RecordedAs) (s : Sym) → IsIn r recorded → r.goal ≡ Some s → IsIn s (goal_ids goals)
