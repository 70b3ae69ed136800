-- The goals' own elements have only words of the table where the goals have.
use Rattle.std.proofs.Common.{◌<◌, ◌≤◌, Bool, true, false, not, cond, List, [], ◌∷◌, ◌++◌, map, length, arith}
use Rattle.soar_sym.specs.Words.{Texts, IsKnown}
use Rattle.soar_sym.specs.declared.symbol.Sym.{Sym}
use Rattle.soar_sym.specs.declared.symbol.Triple.{Triple}
use Rattle.defs_soar.specs.declared.goal.Goal.{Goal}
use Rattle.defs_soar.specs.declared.goal.Impasse.{Impasse}
use Rattle.defs_soar.specs.declared.goal.Impasse.TheVariants as impasse
use Rattle.defs_soar.specs.declared.goal.Item.{Item}
use Rattle.defs_soar.specs.Architecture.{item_word, non_numeric_word}
use Rattle.defs_soar.specs.Goals.{attribute_of, choices_of, elements_below, goal_elements, impasse_of, item_elements, more_elements, plain_triple, substate, tie_elements, top_elements, without_number}
use Rattle.soar_settle.specs.Known.{AreTriplesKnown}
use Rattle.soar_goals.specs.Known.{AreGoalsKnown, AreItemsKnown}

behind : (words : Texts) (triples more : List Triple) → AreTriplesKnown words triples → AreTriplesKnown words more → AreTriplesKnown words (triples ++ more)
behind words [] more h k = k
behind words (t ∷ triples) more h k = (h.0, behind words triples more h.1 k)

-- ---- items

some_items : (words : Texts) (items : List Item) → AreItemsKnown words items → AreItemsKnown words (without_number items)
some_items words [] h = tt
some_items words (item ∷ items) h = by (not item.numeric) (some_items words items h.1)
  where
    by : (b : Bool) → AreItemsKnown words (without_number items) → AreItemsKnown words (cond b (item ∷ without_number items) (without_number items))
    by true later = (h.0, later)
    by false later = later

about : (words : Texts) (id attr : Sym) (items : List Item) → IsKnown words id → IsKnown words attr → AreItemsKnown words items
    → AreTriplesKnown words (map (λ item. plain_triple id attr item.value) items)
about words id attr [] i a h = tt
about words id attr (item ∷ items) i a h = ((i, a, h.0), about words id attr items i a h.1)

tie_known : (words : Texts) (id : Sym) (items : List Item) → 24 ≤ length words → IsKnown words id → AreItemsKnown words items → AreTriplesKnown words (tie_elements id items)
tie_known words id items few i h =
    let without : List Item = without_number items in
    let count : 15 < length words = omega arith in
    let number : 16 < length words = omega arith in
    let number_count : 17 < length words = omega arith in
    let numberless : AreTriplesKnown words (map (λ item. plain_triple id non_numeric_word item.value) without) =
    about words id non_numeric_word without i number (some_items words items h) in
    ((i, count, tt), behind words (map (λ item. plain_triple id non_numeric_word item.value) without) _ numberless ((i, number_count, tt), tt))

more_known : (words : Texts) (id : Sym) (why : Impasse) (items : List Item) → 24 ≤ length words → IsKnown words id → AreItemsKnown words items
    → AreTriplesKnown words (more_elements id why items)
more_known words id why items few i h = by why
  where
    own : AreTriplesKnown words (item_elements id items)
    own = let at : 14 < length words = omega arith in about words id item_word items i at h

    by : (why : Impasse) → AreTriplesKnown words (more_elements id why items)
    by impasse.Tie = behind words (item_elements id items) (tie_elements id items) own (tie_known words id items few i h)
    by impasse.Top = own
    by impasse.Conflict = own
    by impasse.Constraint = own
    by impasse.StateNoChange = own
    by impasse.OperatorNoChange = own

-- ---- substates

impasse_known : (words : Texts) (why : Impasse) → 24 ≤ length words → IsKnown words (impasse_of why)
impasse_known words impasse.Top few = omega arith
impasse_known words impasse.Tie few = omega arith
impasse_known words impasse.Conflict few = omega arith
impasse_known words impasse.Constraint few = omega arith
impasse_known words impasse.StateNoChange few = omega arith
impasse_known words impasse.OperatorNoChange few = omega arith

choices_known : (words : Texts) (why : Impasse) → 24 ≤ length words → IsKnown words (choices_of why)
choices_known words impasse.Top few = omega arith
choices_known words impasse.Tie few = omega arith
choices_known words impasse.Conflict few = omega arith
choices_known words impasse.Constraint few = omega arith
choices_known words impasse.StateNoChange few = omega arith
choices_known words impasse.OperatorNoChange few = omega arith

attribute_known : (words : Texts) (why : Impasse) → 24 ≤ length words → IsKnown words (attribute_of why)
attribute_known words impasse.Top few = omega arith
attribute_known words impasse.Tie few = omega arith
attribute_known words impasse.Conflict few = omega arith
attribute_known words impasse.Constraint few = omega arith
attribute_known words impasse.StateNoChange few = omega arith
attribute_known words impasse.OperatorNoChange few = omega arith

substate_known : (words : Texts) (superstate id : Sym) (why : Impasse) (items : List Item) → 24 ≤ length words → IsKnown words superstate → IsKnown words id
    → AreItemsKnown words items → AreTriplesKnown words (substate superstate id why items)
substate_known words superstate id why items few s i h =
    let at_zero : 0 < length words = omega arith in
    let at_five : 5 < length words = omega arith in
    let at_six : 6 < length words = omega arith in
    let at_nine : 9 < length words = omega arith in
    let at_ten : 10 < length words = omega arith in
    let at_eleven : 11 < length words = omega arith in
    let at_twelve : 12 < length words = omega arith in
    let at_thirteen : 13 < length words = omega arith in
    let kind : IsKnown words (impasse_of why) = impasse_known words why few in
    let choices : IsKnown words (choices_of why) = choices_known words why few in
    let slot : IsKnown words (attribute_of why) = attribute_known words why few in
    let more : AreTriplesKnown words (more_elements id why items) = more_known words id why items few i h in
    ((i, at_six, at_zero), ((i, at_five, s), ((i, at_twelve, at_thirteen), ((i, at_nine, kind), ((i, at_ten, choices), ((i, at_eleven, slot), more))))))

below_known : (words : Texts) (superstate : Sym) (goals : List Goal) → 24 ≤ length words → IsKnown words superstate → AreGoalsKnown words goals
    → AreTriplesKnown words (elements_below superstate goals)
below_known words superstate [] few s h = tt
below_known words superstate (goal ∷ goals) few s h =
    behind words (substate superstate goal.id goal.impasse goal.items) (elements_below goal.id goals)
    (substate_known words superstate goal.id goal.impasse goal.items few s h.0.0 h.0.1) (below_known words goal.id goals few h.0.0 h.1)

-- ---- all goals

-- the links of the top goal and all words are the architecture's
top_known : (words : Texts) (id : Sym) → 24 ≤ length words → IsKnown words id → AreTriplesKnown words (top_elements id)
top_known words id few known =
    let i : (65 ≤ 73) × (73 ≤ 90) = (omega arith, omega arith) in
    let at_zero : 0 < length words = omega arith in
    let at_one : 1 < length words = omega arith in
    let at_two : 2 < length words = omega arith in
    let at_three : 3 < length words = omega arith in
    let at_four : 4 < length words = omega arith in
    let at_five : 5 < length words = omega arith in
    let at_six : 6 < length words = omega arith in
    ((i, at_three, i), ((i, at_four, i), ((known, at_two, i), ((known, at_five, at_one), ((known, at_six, at_zero), tt)))))

pub own_known : (words : Texts) (goals : List Goal) → 24 ≤ length words → AreGoalsKnown words goals → AreTriplesKnown words (goal_elements goals)
own_known words [] few h = tt
own_known words (top ∷ goals) few h =
    behind words (top_elements top.id) (elements_below top.id goals) (top_known words top.id few h.0.0) (below_known words top.id goals few h.0.0 h.1)
