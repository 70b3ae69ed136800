-- The firings that count for goals, and the tags that they add, by what levels tell: how the code goes, cited by no public clause.
use Rattle.std.specs.Prelude.{ℕ, suc, Bool, ◌&&◌, List, [], ◌∷◌, map, flat_map, filter, if◌then◌else◌}
use Rattle.std.specs.List.{list_any}
use Rattle.soar_sym.specs.declared.symbol.Sym.{Sym}
use Rattle.defs_soar.specs.declared.goal.Goal.{Goal}
use Rattle.defs_soar.specs.declared.preference.Preference.{Preference}
use Rattle.defs_soar.specs.Dependencies.{is_goal_of}
use Rattle.defs_soar.specs.Explanation.{chain_of}
use Rattle.defs_soar.specs.History.{FiringOf, firing_seen}
use Rattle.defs_soar.specs.Waves.{lasting_of}
use Rattle.firing_records.specs.declared.outcome.Recorded.{Recorded}
use Rattle.goal_dependence.specs.Told.{Told, is_told_local, was_told_below}

-- ---- tags of firings

abbrev pub counts_as_told : Told → List Preference → Sym → ℕ → Recorded → Bool
counts_as_told told added goal depth r =
    r.operator_kind && (is_goal_of r.goal goal && list_any (is_told_local told depth (firing_seen r.firing)) (lasting_of added r.firing.number))

-- the grounds of a firing that were told to be of a higher level
abbrev pub higher_as_told : Told → List FiringOf → ℕ → ℕ → List ℕ
higher_as_told told firings depth number = map (λ e. e.tag) (filter (λ e. was_told_below told depth e.id) (chain_of firings (number ∷ []) []).grounds)

-- what a firing adds to what a goal depends on
abbrev pub tags_by : Told → List FiringOf → List Preference → Sym → ℕ → Recorded → List ℕ
tags_by told firings added goal depth r = if counts_as_told told added goal depth r then higher_as_told told firings depth r.firing.number else []

abbrev pub tags_as_told : Told → List FiringOf → List Preference → Sym → ℕ → List Recorded → List ℕ
tags_as_told told firings added goal depth recorded = flat_map (tags_by told firings added goal depth) recorded

-- goal by goal, from a depth on
abbrev pub tags_as_told_from : Told → List FiringOf → List Preference → List Recorded → ℕ → List Goal → List (List ℕ)
tags_as_told_from told firings added recorded depth [] = []
tags_as_told_from told firings added recorded depth (goal ∷ goals) =
    tags_as_told told firings added goal.id depth recorded ∷ tags_as_told_from told firings added recorded (suc depth) goals
