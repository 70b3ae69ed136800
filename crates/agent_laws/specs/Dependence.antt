-- What a goal depends on, as the history grows: what it depended on, and then what the new firings add.
use Rattle.std.specs.Prelude.{◌≡◌, ℕ, suc, ◌<◌, false, List, [], ◌∷◌, ◌++◌, map, flat_map, filter, take}
use Rattle.soar_sym.specs.declared.symbol.Sym.{Sym}
use Rattle.defs_soar.specs.declared.goal.Goal.{Goal}
use Rattle.defs_soar.specs.Agents.{Agent, LiveFiring}
use Rattle.defs_soar.specs.Dependencies.{counts_for, dependency_set, higher_grounds, is_goal_of}
use Rattle.defs_soar.specs.Explanation.{maker_named}
use Rattle.defs_soar.specs.History.{FiringOf, RecordedFiring}
use Rattle.defs_soar.specs.Laws.{IsIn}
use Rattle.defs_soar.specs.Preferences.{without_firings}
use Rattle.defs_soar.specs.Standing.{dependencies_from}
use Rattle.defs_soar.specs.Trimming.{numbers_of}
use Rattle.defs_soar.specs.WaveAtHand.{all_fresh, Wave}
use Rattle.defs_soar.specs.WaveFirings.{before_wave}
use Rattle.defs_soar.specs.Waves.{after_work, recorded_firing, rows_added, rows_of_fresh}
use Rattle.learning_laws.specs.LawfulAgents.{IsLawfulAgent}
use Rattle.learning_laws.specs.LawfulWaves.{IsLawfulWave}
use Rattle.agent_laws.specs.Records.{IsPartOf}

abbrev pub firings_in : List RecordedFiring → List FiringOf
firings_in history = map (λ past. past.firing) history

-- each firing used what lesser numbers made
abbrev pub MakersAreEarlier : List FiringOf → Type 0
MakersAreEarlier firings = (f : FiringOf) → IsIn f firings → (n : ℕ) → IsIn n (flat_map maker_named f.used) → n < f.number

-- the new firings have greater numbers
abbrev pub AreLater : List RecordedFiring → List RecordedFiring → Type 0
AreLater old new = (p q : RecordedFiring) → IsIn p old → IsIn q new → p.firing.number < q.firing.number

-- the tags that some firings add to what a goal depends on, found with a history
abbrev pub tags_added : List RecordedFiring → List RecordedFiring → Sym → ℕ → List ℕ
tags_added history pasts goal depth = flat_map (higher_grounds (firings_in history) depth) (filter (counts_for goal depth) pasts)

abbrev pub DependenciesGrow : Type 0
DependenciesGrow =
    (old new : List RecordedFiring) (goal : Sym) (depth : ℕ) → MakersAreEarlier (firings_in old) → AreLater old new
    → dependency_set (old ++ new) goal depth ≡ dependency_set old goal depth ++ tags_added (old ++ new) new goal depth

-- ---- each new firing with the history up to it

abbrev pub AreInTurn : List RecordedFiring → List RecordedFiring → Type 0
AreInTurn before [] = Unit {0}
AreInTurn before (p ∷ new) = AreLater before (p ∷ []) × AreInTurn (before ++ p ∷ []) new

abbrev pub tags_in_turn : List RecordedFiring → List RecordedFiring → Sym → ℕ → List ℕ
tags_in_turn before [] goal depth = []
tags_in_turn before (p ∷ new) goal depth = tags_added (before ++ p ∷ []) (p ∷ []) goal depth ++ tags_in_turn (before ++ p ∷ []) new goal depth

abbrev pub DependenciesInTurn : Type 0
DependenciesInTurn =
    (old new : List RecordedFiring) (goal : Sym) (depth : ℕ) → MakersAreEarlier (firings_in (old ++ new)) → AreInTurn old new
    → dependency_set (old ++ new) goal depth ≡ dependency_set old goal depth ++ tags_in_turn old new goal depth

-- ---- from a part of the history, and in a wave

-- the tags that a firing adds are found from a part of the history that has all that it reaches
abbrev pub TagsByRecord : Type 0
TagsByRecord =
    (kept firings : List FiringOf) (depth : ℕ) (past : RecordedFiring) → IsPartOf kept firings (past.firing.number ∷ []) → higher_grounds kept depth past ≡ higher_grounds firings depth past

-- the firings of a wave, as they join the history
abbrev pub pasts_of : Agent → List LiveFiring → Wave → List RecordedFiring
pasts_of a gone w =
    let fresh = all_fresh w.entries in
    map (recorded_firing (before_wave a) (rows_added (without_firings a.holding.rows (numbers_of gone)) (flat_map rows_of_fresh fresh))) fresh

abbrev pub WavesAddDependencies : Type 0
WavesAddDependencies =
    (a : Agent) (gone : List LiveFiring) (w : Wave) (goal : Sym) (depth : ℕ) → IsLawfulAgent a → IsLawfulWave a w
    → dependency_set (after_work a gone w).agent.history goal depth
    ≡ dependency_set a.history goal depth ++ tags_added (after_work a gone w).agent.history (pasts_of a gone w) goal depth

-- ---- goal by goal, from a depth on

abbrev pub tags_from : List RecordedFiring → List RecordedFiring → ℕ → List Goal → List (List ℕ)
tags_from history pasts depth [] = []
tags_from history pasts depth (goal ∷ goals) = tags_added history pasts goal.id depth ∷ tags_from history pasts (suc depth) goals

-- each with more behind it
abbrev pub each_with : List (List ℕ) → List (List ℕ) → List (List ℕ)
each_with [] more = []
each_with (tags ∷ others) [] = tags ∷ others
each_with (tags ∷ others) (added ∷ more) = (tags ++ added) ∷ each_with others more

abbrev pub GoalsDependOnMore : Type 0
GoalsDependOnMore =
    (old new : List RecordedFiring) (depth : ℕ) (goals : List Goal) → MakersAreEarlier (firings_in old) → AreLater old new
    → dependencies_from (old ++ new) depth goals ≡ each_with (dependencies_from old depth goals) (tags_from (old ++ new) new depth goals)

-- where the goals below some go, these depend on what they did
abbrev pub GoalsLeftDependAsBefore : Type 0
GoalsLeftDependAsBefore =
    (history : List RecordedFiring) (depth n : ℕ) (goals : List Goal) → dependencies_from history depth (take n goals) ≡ take n (dependencies_from history depth goals)

-- a goal of which no firing was depends on nothing
abbrev pub NewGoalsDependOnNothing : Type 0
NewGoalsDependOnNothing =
    (history : List RecordedFiring) (depth : ℕ) (goals : List Goal) (goal : Goal) → ((p : RecordedFiring) → IsIn p history → is_goal_of p.goal goal.id ≡ false)
    → dependencies_from history depth (goals ++ goal ∷ []) ≡ dependencies_from history depth goals ++ [] ∷ []
