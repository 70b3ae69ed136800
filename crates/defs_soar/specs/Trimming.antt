-- Settling, and the goals that go because something they depend on has gone.
use Rattle.std.specs.Prelude.{ℕ, suc, ◌-◌, Bool, true, false, not, nat_lt, List, [], ◌∷◌, map, filter, length, take, drop, Option, Some, None, if◌then◌else◌}
use Rattle.std.specs.List.{list_any}
use Rattle.soar_sym.specs.declared.symbol.Sym.{Sym}
use Rattle.soar_sym.specs.declared.symbol.Triple.{Triple}
use Rattle.soar_rule.specs.Repeat.{Turn, ends, goes_on, turns}
use Rattle.defs_match.specs.Element.{Element}
use Rattle.defs_match.specs.WorkingMemory.{triple_of, element_of}
use Rattle.defs_soar.specs.declared.goal.Goal.{Goal}
use Rattle.defs_soar.specs.declared.preference.Preference.{Preference}
use Rattle.defs_soar.specs.Agents.{LiveFiring}
use Rattle.defs_soar.specs.Dependencies.{dependency_set}
use Rattle.defs_soar.specs.History.{RecordedFiring}
use Rattle.defs_soar.specs.Preferences.{without_firings}
use Rattle.defs_soar.specs.Settling.{Supports, settled, kept_triples}
use Rattle.defs_soar.specs.Values.{has_triple_among}

-- ---- the removal of a goal

-- a goal that went, and its depth
pub record RemovedGoal : Type 0 where
  pub id : Sym
  pub depth : ℕ

-- what may go, and the goals that went, from the top
pub record Remains : Type 0 where
  pub goals : List Goal
  pub rows : List Preference
  pub inputs : List Triple
  pub live : List LiveFiring
  pub removed : List RemovedGoal

abbrev pub numbers_of : List LiveFiring → List ℕ
numbers_of live = map (λ l. l.number) live

-- goals that stand below one another, the first at a depth
abbrev pub at_depths : ℕ → List Goal → List RemovedGoal
at_depths depth [] = []
at_depths depth (goal ∷ goals) = record { id = goal.id; depth = depth } ∷ at_depths (suc depth) goals

-- one goal more, by depth, the highest first; of equal depths the one that went earlier stands first
abbrev pub with_removed : RemovedGoal → List RemovedGoal → List RemovedGoal
with_removed goal [] = goal ∷ []
with_removed goal (other ∷ others) = if nat_lt goal.depth other.depth then goal ∷ other ∷ others else other ∷ with_removed goal others

abbrev pub with_all_removed : List RemovedGoal → List RemovedGoal → List RemovedGoal
with_all_removed [] removed = removed
with_all_removed (goal ∷ goals) removed = with_all_removed goals (with_removed goal removed)

-- with the goal of a depth go all deeper ones, their firings, and the instance-supported rows of these
abbrev pub without_goals : ℕ → Remains → Remains
without_goals depth t = record {
  goals = take (depth - 1) t.goals;
  rows = without_firings t.rows (numbers_of (filter (λ l. not (nat_lt l.depth depth)) t.live));
  inputs = t.inputs;
  live = filter (λ l. nat_lt l.depth depth) t.live;
  removed = with_all_removed (at_depths depth (drop (depth - 1) t.goals)) t.removed;
}

-- ---- what is lost

-- the element of the tag is gone, or its triple is not kept
abbrev pub is_lost : List Element → List Triple → ℕ → Bool
is_lost elements kept tag = elim (element_of tag elements) [ None ↦ true | Some e ↦ not (has_triple_among kept (triple_of e)) ]

-- the least depth, from this one on, of a goal that lost something it depends on
abbrev pub highest_broken : List RecordedFiring → List Element → List Triple → ℕ → List Goal → Option ℕ
highest_broken history elements kept depth [] = None
highest_broken history elements kept depth (goal ∷ goals) =
    elim (list_any (is_lost elements kept) (dependency_set history goal.id depth)) [
      | true ↦ Some depth
      | false ↦ highest_broken history elements kept (suc depth) goals
    ]

-- ---- until none is broken

abbrev pub supports_of : Remains → Supports
supports_of t = record { rows = t.rows; inputs = t.inputs }

abbrev pub with_supports : Remains → Supports → Remains
with_supports t s = record t { rows = s.rows; inputs = s.inputs }

abbrev pub without_broken : Remains → Option ℕ → Turn Remains
without_broken t None = ends t
without_broken t (Some depth) = goes_on (without_goals depth t)

-- settled, and without the highest goal that is broken; the top goal stays
abbrev pub one_trim : List RecordedFiring → List Element → Remains → Turn Remains
one_trim history elements t =
    let s = settled t.goals (supports_of t) in
    without_broken (with_supports t s) (highest_broken history elements (kept_triples t.goals s) 2 (drop 1 t.goals))

abbrev pub trimmed_by : Turn Remains → Remains
trimmed_by (ends t) = t
trimmed_by (goes_on t) = t

-- working memory is that before the step; each time but the last a goal goes
unfoldable pub trimmed : List RecordedFiring → List Element → Remains → Remains
trimmed history elements t = trimmed_by (turns (suc (length t.goals)) (one_trim history elements) t)
