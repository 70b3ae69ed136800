-- What is forgotten first.
use Rattle.std.specs.Prelude.{ℕ, ◌==◌, Bool, true, false, ◌&&◌, not, List, ◌++◌, map, filter, Option, Some, None}
use Rattle.soar_sym.specs.Equality.{symbol_eq}
use Rattle.soar_sym.specs.declared.symbol.Sym.{Sym}
use Rattle.soar_sym.specs.declared.symbol.Triple.{Triple}
use Rattle.defs_soar.specs.Levels.{first_place}
use Rattle.defs_soar.specs.Sorted.{has_symbol}
use Rattle.level_laws.specs.Labels.{Labels}
use Rattle.level_change.specs.Forgetting.{has_level}
use Rattle.level_change.specs.declared.store.Store.{Store}
use Rattle.level_change.specs.Links.{is_linked}

abbrev pub at_level : Option ℕ → Option ℕ → Bool
at_level None other = false
at_level (Some n) other = has_level other n

-- the triple's link is gone, and its value, which is no goal, has the level of its source
abbrev pub is_cut : Labels → Store → List Sym → Triple → Bool
is_cut told links goals t = not (is_linked links t.id t.value) && (not (has_symbol goals t.value) && at_level (told t.id) (told t.value))

-- the place of a goal, from 0
abbrev pub place_of : List Sym → Sym → Option ℕ
place_of goals s = first_place (symbol_eq s) 0 goals

abbrev pub same_place : Option ℕ → Option ℕ → Bool
same_place None None = true
same_place None (Some n) = false
same_place (Some m) None = false
same_place (Some m) (Some n) = m == n

abbrev pub has_other_place : List Sym → List Sym → Sym → Bool
has_other_place old new s = not (same_place (place_of old s) (place_of new s))

-- what lost the link that gave its level, and the goals that come, go or move
abbrev pub seeds_in : Labels → Store → List Sym → List Triple → List Sym → List Sym
seeds_in told links old gone new = map (λ t. t.value) (filter (is_cut told links old) gone) ++ (filter (has_other_place old new) old ++ filter (has_other_place old new) new)
