-- Records that have the makers of what their firings used.
use Rattle.std.specs.Prelude.{◌≡◌, ℕ, true, List, flat_map}
use Rattle.std.specs.List.{list_all}
use Rattle.defs_soar.specs.Explanation.{explaining, maker_named}
use Rattle.defs_soar.specs.History.{FiringOf}
use Rattle.defs_soar.specs.Laws.{IsIn}
use Rattle.defs_soar.specs.Standing.{AreFrom, is_recorded}
use Rattle.agent_laws.specs.Records.{AreApart, IsPartOf}

abbrev pub AreRecorded : List FiringOf → List ℕ → Type 0
AreRecorded kept numbers = (n : ℕ) → IsIn n numbers → is_recorded kept n ≡ true

-- what each of its firings used was made by firings of it
abbrev pub HasMakers : List FiringOf → Type 0
HasMakers kept = (f : FiringOf) → IsIn f kept → AreRecorded kept (flat_map maker_named f.used)

-- firings of the history, each once, with their makers, have all that those of them reach
abbrev pub RecordedRootsSuffice : Type 0
RecordedRootsSuffice =
    (kept firings : List FiringOf) (roots : List ℕ) → AreApart kept → AreFrom firings kept → HasMakers kept → AreRecorded kept roots → IsPartOf kept firings roots

-- the roots of a part are in it
abbrev pub RootsAreRecorded : Type 0
RootsAreRecorded = (kept firings : List FiringOf) (roots : List ℕ) → IsPartOf kept firings roots → AreRecorded kept roots

-- what some roots reach in a record, and no more, has its makers
abbrev pub ReachedHaveMakers : Type 0
ReachedHaveMakers =
    (less kept : List FiringOf) (roots : List ℕ) → AreFrom kept less → ((f : FiringOf) → IsIn f less → IsIn f.number (explaining kept roots))
    → list_all (is_recorded less) (explaining kept roots) ≡ true → HasMakers less
