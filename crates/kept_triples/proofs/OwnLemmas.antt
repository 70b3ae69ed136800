-- None of the goals' own triples is marked.
use Rattle.std.proofs.Common.{◌≡◌, Bool, true, false, not, ◌&&◌, ◌||◌, List, [], ◌∷◌, ◌++◌, map, flat_map, length, pos, Option, Some, None, refl, ◌∙◌}
use Rattle.soar_sym.specs.Equality.{mark_eq, symbol_eq}
use Rattle.soar_sym.specs.declared.symbol.Sym.{Sym}
use Rattle.soar_sym.specs.declared.symbol.Sym.TheVariants.{Int}
use Rattle.soar_sym.specs.declared.symbol.Triple.{Triple}
use Rattle.defs_soar.specs.declared.goal.Goal.{Goal}
use Rattle.defs_soar.specs.declared.goal.Impasse.{Impasse}
use Rattle.defs_soar.specs.declared.goal.Impasse.TheVariants as impasse
use Rattle.defs_soar.specs.declared.goal.Item.{Item}
use Rattle.defs_soar.specs.declared.goal.Selection.{Selection}
use Rattle.defs_soar.specs.Architecture.{item_count_word, item_word, non_numeric_count_word, non_numeric_word}
use Rattle.defs_soar.specs.Goals.{elements_below, goal_elements, item_elements, more_elements, plain_triple, selected_by_goal, selected_element, substate, top_elements, without_number}
use Rattle.defs_soar.specs.Values.{has_triple_among, triple_eq}
use Rattle.settling_laws.specs.Changes.{own_triples}
use Rattle.kept_triples.specs.Owned.{ArePlain}

-- ---- a marked triple is not among them

apart : (t u : Triple) → u.accept ≡ false → t.accept ≡ true → triple_eq t u ≡ false
apart t u plain marked =
    (λ k. symbol_eq t.id u.id && (symbol_eq t.attr u.attr && (symbol_eq t.value u.value && mark_eq (marked k) (plain k))))
    ∙ by (symbol_eq t.id u.id) (symbol_eq t.attr u.attr) (symbol_eq t.value u.value)
  where
    by : (a b c : Bool) → (a && (b && (c && false))) ≡ false
    by true true true = refl
    by true true false = refl
    by true false c = refl
    by false b c = refl

pub absent : (triples : List Triple) → ArePlain triples → (t : Triple) → t.accept ≡ true → has_triple_among triples t ≡ false
absent [] plain t marked = refl
absent (u ∷ triples) plain t marked = λ k. apart t u plain.0 marked k || absent triples plain.1 t marked k

pub marked_is : (b : Bool) → not b ≡ false → b ≡ true
marked_is true h = refl
marked_is false h = absurd (cc)

-- ---- the goals' own

both : (xs ys : List Triple) → ArePlain xs → ArePlain ys → ArePlain (xs ++ ys)
both [] ys first second = second
both (x ∷ xs) ys first second = (first.0, both xs ys first.1 second)

of_items : (id attr : Sym) (items : List Item) → ArePlain (map (λ item. plain_triple id attr item.value) items)
of_items id attr [] = tt
of_items id attr (item ∷ items) = (refl, of_items id attr items)

of_tie : (id : Sym) (items : List Item) → ArePlain (more_elements id impasse.Tie items)
of_tie id items =
    let last : List Triple = plain_triple id non_numeric_count_word (Int (pos (length (without_number items)))) ∷ [] in
    let rest : List Triple = map (λ item. plain_triple id non_numeric_word item.value) (without_number items) in
    both (item_elements id items) (plain_triple id item_count_word (Int (pos (length items))) ∷ rest ++ last) (of_items id item_word items)
    (refl, both rest last (of_items id non_numeric_word (without_number items)) (refl, tt))

of_more : (id : Sym) (why : Impasse) (items : List Item) → ArePlain (more_elements id why items)
of_more id impasse.Top items = of_items id item_word items
of_more id impasse.Tie items = of_tie id items
of_more id impasse.Conflict items = of_items id item_word items
of_more id impasse.Constraint items = of_items id item_word items
of_more id impasse.StateNoChange items = of_items id item_word items
of_more id impasse.OperatorNoChange items = of_items id item_word items

of_below : (superstate : Sym) (goals : List Goal) → ArePlain (elements_below superstate goals)
of_below superstate [] = tt
of_below superstate (goal ∷ goals) =
    both (substate superstate goal.id goal.impasse goal.items) (elements_below goal.id goals)
    (refl, (refl, (refl, (refl, (refl, (refl, of_more goal.id goal.impasse goal.items))))))
    (of_below goal.id goals)

of_goals : (goals : List Goal) → ArePlain (goal_elements goals)
of_goals [] = tt
of_goals (top ∷ goals) = both (top_elements top.id) (elements_below top.id goals) (refl, (refl, (refl, (refl, (refl, tt))))) (of_below top.id goals)

of_selected : (goals : List Goal) → ArePlain (flat_map selected_element goals)
of_selected [] = tt
of_selected (goal ∷ goals) = both (selected_element goal) (flat_map selected_element goals) (by goal.selected) (of_selected goals)
  where
    by : (selected : Option Selection) → ArePlain (selected_by_goal goal selected)
    by None = tt
    by (Some selection) = (refl, tt)

pub own_are_plain : (goals : List Goal) → ArePlain (own_triples goals)
own_are_plain goals = both (goal_elements goals) (flat_map selected_element goals) (of_goals goals) (of_selected goals)
