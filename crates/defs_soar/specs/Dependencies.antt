-- What a goal depends on (Soar manual, chapter 2, goal dependency sets), found from the whole history.
use Rattle.std.specs.Prelude.{ℕ, Bool, true, false, ◌&&◌, ◌||◌, ◌==◌, not, nat_lt, List, [], ◌∷◌, map, flat_map, filter, Option, Some, None}
use Rattle.std.specs.List.{list_any}
use Rattle.soar_sym.specs.Equality.{symbol_eq}
use Rattle.soar_sym.specs.declared.symbol.Sym.{Sym}
use Rattle.soar_rule.specs.Symbols.{constants_of}
use Rattle.defs_soar.specs.declared.preference.Wish.{Wish}
use Rattle.defs_soar.specs.Explanation.{chain_of}
use Rattle.defs_soar.specs.History.{Reach, FiringOf, RecordedFiring}
use Rattle.defs_soar.specs.Levels.{level_in}
use Rattle.defs_soar.specs.Sorted.{has_symbol}
use Rattle.defs_soar.specs.Values.{is_identifier}

-- ---- what is new in a firing

abbrev pub symbols_of_referent : Option Sym → List Sym
symbols_of_referent None = []
symbols_of_referent (Some s) = s ∷ []

abbrev pub symbols_of_wish : Wish → List Sym
symbols_of_wish w = w.id ∷ w.attr ∷ w.value ∷ symbols_of_referent w.referent

-- an identifier that stands in what the firing made, but neither in its bindings nor as a constant in its rule
abbrev pub is_new_in : FiringOf → Sym → Bool
is_new_in f s =
    is_identifier s
    && (has_symbol (flat_map symbols_of_wish f.made) s && (not (has_symbol f.instance.binds s) && not (has_symbol (constants_of f.rule.production) s)))

-- ---- dependency sets

abbrev pub has_level : Reach → ℕ → Sym → Bool
has_level reach depth s = elim (level_in reach.goals reach.reached s) [ Some n ↦ n == depth | None ↦ false ]

-- an identifier that no goal reached counts as one of level 0
abbrev pub had_level_below : Reach → ℕ → Sym → Bool
had_level_below reach depth s = elim (level_in reach.goals reach.reached s) [ Some n ↦ nat_lt n depth | None ↦ true ]

abbrev pub is_goal_of : Option Sym → Sym → Bool
is_goal_of None goal = false
is_goal_of (Some s) goal = symbol_eq s goal

-- an object of the goal's level, or one that is new in the firing
abbrev pub is_local_to : ℕ → RecordedFiring → Sym → Bool
is_local_to depth past s = has_level past.before depth s || is_new_in past.firing s

-- a firing of operator kind for the goal that added something lasting to a local object
abbrev pub counts_for : Sym → ℕ → RecordedFiring → Bool
counts_for goal depth past = past.operator_kind && (is_goal_of past.goal goal && list_any (is_local_to depth past) past.lasting)

-- the grounds of its explanation that were of a higher level
abbrev pub higher_grounds : List FiringOf → ℕ → RecordedFiring → List ℕ
higher_grounds firings depth past =
    map (λ e. e.tag) (filter (λ e. had_level_below past.before depth e.id) (chain_of firings (past.firing.number ∷ []) []).grounds)

-- the tags on which a goal of this depth depends
unfoldable pub dependency_set : List RecordedFiring → Sym → ℕ → List ℕ
dependency_set history goal depth = flat_map (higher_grounds (map (λ past. past.firing) history) depth) (filter (counts_for goal depth) history)
