-- Levels over triples and goals.
use Rattle.std.specs.Prelude.{◌≡◌, ℕ, List, [], ◌∷◌, Option, Some, None, is_some}
use Rattle.std.specs.FinMap as map
use Rattle.soar_sym.specs.declared.symbol.Sym.{Sym}
use Rattle.soar_sym.specs.declared.symbol.Triple.{Triple}
use Rattle.level_graph.specs.Spreading.{Spreads}
use Rattle.level_change.specs.Counts.{edge_count}
use Rattle.level_change.specs.Links.{Place, place_cmp, id_of, link_place, level_place, Facts, Late, if_any}

-- numbers at places, in their order
abbrev pub Numbers : Type 0
Numbers = List (Place × ℕ)

-- Levels, links out and in, each with the number of triples that lead so, the goals from the top, and the symbols whose level
-- the last change may have altered. Both stand by letters and numbers of identifiers, for no other symbol has a level or a link.
pub record Graph : Type 0 where
  pub told : Numbers
  pub out : Numbers
  pub into : Numbers
  pub goals : List Sym
  pub moved : List Sym

-- the number at a place, where there is such a place
abbrev pub number_at : Numbers → Option Place → Option ℕ
number_at numbers None = None
number_at numbers (Some q) = map.find place_cmp q numbers

-- the level of a symbol, where a goal reaches it
abbrev pub level_in_graph : Graph → Sym → Option ℕ
level_in_graph graph s = number_at graph.told (level_place (id_of s))

-- how often x leads to y, where it does
abbrev pub times_in : Numbers → Sym → Sym → Option ℕ
times_in links x y = number_at links (link_place (id_of x) (id_of y))

-- The links out and in are those of the triples, each as often as triples lead so; the levels are those of the goals along them.
-- Of the triples this speaks by their counts alone.
pub record Stands (graph : Graph) (triples : List Triple) (goals : List Sym) : Type 0 where
  pub out : (x y : Sym) → times_in graph.out x y ≡ if_any (edge_count triples x y)
  pub into : (x y : Sym) → times_in graph.into y x ≡ if_any (edge_count triples x y)
  pub same_goals : graph.goals ≡ goals
  pub levels : Spreads (λ x y. is_some (times_in graph.out x y)) goals (level_in_graph graph) []

-- what is kept, with what came later
abbrev pub put_over : Option ℕ → Place → map.FinMap place_cmp ℕ → map.FinMap place_cmp ℕ
put_over None place numbers = map.remove numbers place
put_over (Some n) place numbers = map.insert numbers place n

abbrev pub merged_map : Facts → Late → map.FinMap place_cmp ℕ
merged_map base [] = map.from_entries base
merged_map base (e ∷ late) = put_over e.1 e.0 (merged_map base late)

abbrev pub merged : Facts → Late → Numbers
merged base late = map.entries (merged_map base late)
