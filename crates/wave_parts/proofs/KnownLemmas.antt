-- What settling leaves has only symbols of the table where what it began with had.
use Rattle.std.proofs.Common.{ℕ, suc, ◌<◌, ◌≤◌, ◌&&◌, ◌||◌, Bool, true, false, not, cond, List, [], ◌∷◌, ◌++◌, filter, map, flat_map, length, Option, Some, None, is_some, inl, inr, refl, subst, arith}
use Rattle.std.specs.Ordering.{is_lt}
use Rattle.soar_sym.specs.Order.{triple_cmp}
use Rattle.soar_sym.specs.Words.{Texts, IsKnown}
use Rattle.soar_sym.specs.declared.symbol.Sym.{Sym}
use Rattle.soar_sym.specs.declared.symbol.Sym.TheVariants.{Word}
use Rattle.soar_sym.specs.declared.symbol.Triple.{Triple}
use Rattle.soar_rule.specs.Symbols.{AreKnown}
use Rattle.soar_wm.specs.declared.element.Element.{Element}
use Rattle.defs_soar.specs.declared.goal.Goal.{Goal}
use Rattle.defs_soar.specs.declared.goal.Impasse.{Impasse}
use Rattle.defs_soar.specs.declared.goal.Impasse.TheVariants as impasse
use Rattle.defs_soar.specs.declared.goal.Item.{Item}
use Rattle.defs_soar.specs.declared.goal.Selection.{Selection}
use Rattle.defs_soar.specs.declared.preference.PrefKind.TheVariants as kind
use Rattle.defs_soar.specs.declared.preference.Preference.{Preference}
use Rattle.defs_soar.specs.Dependencies.{symbols_of_wish}
use Rattle.defs_soar.specs.Architecture.{item_word, non_numeric_word}
use Rattle.defs_soar.specs.Goals.{attribute_of, choices_of, elements_below, impasse_of, is_operator_slot, item_elements, goal_elements, more_elements, plain_triple, selected_by_goal, selected_element, substate, tie_elements, top_elements, without_number}
use Rattle.defs_soar.specs.Laws.{IsIn}
use Rattle.defs_soar.specs.Held.{held, held_by, held_candidate, held_ordinary, is_rejected, marked_triple_of}
use Rattle.defs_soar.specs.Levels.{reaches, level_in}
use Rattle.defs_soar.specs.Settling.{Supports, kept_triples, stays, tagged, new_triples, elements_after}
use Rattle.defs_soar.specs.Sorted.{with_triple_at, in_order}
use Rattle.defs_soar.specs.Values.{is_kind}
use Rattle.soar_settle.specs.Known.{AreElementsKnown, AreRowsKnown, AreTriplesKnown}
use Rattle.wave_parts.specs.Seen.{AreGoalsKnown, IsSelectionKnown}
use Rattle.settling_laws.proofs.MemberLemmas.{filter_within}
use Rattle.soar_choose.specs.Rows.{AreInRange, IsNumberInRange}

-- ---- lists of triples, rows and elements

triples_append : (words : Texts) (triples more : List Triple) → AreTriplesKnown words triples → AreTriplesKnown words more → AreTriplesKnown words (triples ++ more)
triples_append words [] more h k = k
triples_append words (t ∷ triples) more h k = (h.0, triples_append words triples more h.1 k)

triples_filter : (words : Texts) (p : Triple → Bool) (triples : List Triple) → AreTriplesKnown words triples → AreTriplesKnown words (filter p triples)
triples_filter words p [] h = tt
triples_filter words p (t ∷ triples) h = by (p t) (triples_filter words p triples h.1)
  where
    by : (b : Bool) → AreTriplesKnown words (filter p triples) → AreTriplesKnown words (cond b (t ∷ filter p triples) (filter p triples))
    by true later = (h.0, later)
    by false later = later

rows_filter : (words : Texts) (p : Preference → Bool) (rows : List Preference) → AreRowsKnown words rows → AreRowsKnown words (filter p rows)
rows_filter words p [] h = tt
rows_filter words p (row ∷ rows) h = by (p row) (rows_filter words p rows h.1)
  where
    by : (b : Bool) → AreRowsKnown words (filter p rows) → AreRowsKnown words (cond b (row ∷ filter p rows) (filter p rows))
    by true later = (h.0, later)
    by false later = later

pub elements_filter : (words : Texts) (p : Element → Bool) (elements : List Element) → AreElementsKnown words elements → AreElementsKnown words (filter p elements)
elements_filter words p [] h = tt
elements_filter words p (e ∷ elements) h = by (p e) (elements_filter words p elements h.1)
  where
    by : (b : Bool) → AreElementsKnown words (filter p elements) → AreElementsKnown words (cond b (e ∷ filter p elements) (filter p elements))
    by true later = (h.0, later)
    by false later = later

elements_append : (words : Texts) (elements more : List Element) → AreElementsKnown words elements → AreElementsKnown words more → AreElementsKnown words (elements ++ more)
elements_append words [] more h k = k
elements_append words (e ∷ elements) more h k = (h.0, elements_append words elements more h.1 k)

-- ---- what is held

row_holds : (words : Texts) (all : List Preference) (goals : List Goal) (row : Preference) → AreKnown words (symbols_of_wish row.wish) → AreTriplesKnown words (held_by all goals row)
row_holds words all goals row h = by (is_operator_slot goals row.wish.id row.wish.attr)
  where
    candidate : (b : Bool) → AreTriplesKnown words (cond b (marked_triple_of row ∷ []) [])
    candidate true = ((h.0, h.1.0, h.1.1.0), tt)
    candidate false = tt

    ordinary : (b : Bool) → AreTriplesKnown words (cond b (record { id = row.wish.id; attr = row.wish.attr; value = row.wish.value; accept = false } ∷ []) [])
    ordinary true = ((h.0, h.1.0, h.1.1.0), tt)
    ordinary false = tt

    by : (b : Bool) → AreTriplesKnown words (cond b (held_candidate row) (held_ordinary all row))
    by true = candidate (is_kind row.wish.kind kind.Accept || is_kind row.wish.kind kind.Require)
    by false = ordinary (is_kind row.wish.kind kind.Accept && not (is_rejected all row))

rows_hold : (words : Texts) (all : List Preference) (goals : List Goal) (rows : List Preference) → AreRowsKnown words rows → AreTriplesKnown words (flat_map (held_by all goals) rows)
rows_hold words all goals [] h = tt
rows_hold words all goals (row ∷ rows) h =
    triples_append words (held_by all goals row) (flat_map (held_by all goals) rows) (row_holds words all goals row h.0) (rows_hold words all goals rows h.1)

-- ---- goals

word_known : (words : Texts) (n : ℕ) → 24 ≤ length words → n < 24 → IsKnown words (Word n)
word_known words n h below = omega arith

impasse_known : (words : Texts) (why : Impasse) → 24 ≤ length words → IsKnown words (impasse_of why)
impasse_known words impasse.Top h = word_known words 23 h (omega arith)
impasse_known words impasse.Tie h = word_known words 18 h (omega arith)
impasse_known words impasse.Conflict h = word_known words 19 h (omega arith)
impasse_known words impasse.Constraint h = word_known words 20 h (omega arith)
impasse_known words impasse.StateNoChange h = word_known words 21 h (omega arith)
impasse_known words impasse.OperatorNoChange h = word_known words 21 h (omega arith)

choices_known : (words : Texts) (why : Impasse) → 24 ≤ length words → IsKnown words (choices_of why)
choices_known words impasse.Top h = word_known words 23 h (omega arith)
choices_known words impasse.Tie h = word_known words 22 h (omega arith)
choices_known words impasse.Conflict h = word_known words 22 h (omega arith)
choices_known words impasse.Constraint h = word_known words 20 h (omega arith)
choices_known words impasse.StateNoChange h = word_known words 23 h (omega arith)
choices_known words impasse.OperatorNoChange h = word_known words 23 h (omega arith)

attribute_known : (words : Texts) (why : Impasse) → 24 ≤ length words → IsKnown words (attribute_of why)
attribute_known words impasse.Top h = word_known words 7 h (omega arith)
attribute_known words impasse.Tie h = word_known words 7 h (omega arith)
attribute_known words impasse.Conflict h = word_known words 7 h (omega arith)
attribute_known words impasse.Constraint h = word_known words 7 h (omega arith)
attribute_known words impasse.StateNoChange h = word_known words 0 h (omega arith)
attribute_known words impasse.OperatorNoChange h = word_known words 7 h (omega arith)

abbrev ItemsKnown : Texts → List Item → Type 0
ItemsKnown words items = (item : Item) → IsIn item items → IsKnown words item.value

items_known : (words : Texts) (id attr : Sym) (items : List Item) → IsKnown words id → IsKnown words attr → ItemsKnown words items
    → AreTriplesKnown words (map (λ item. plain_triple id attr item.value) items)
items_known words id attr [] i a h = tt
items_known words id attr (item ∷ items) i a h = ((i, a, h item (inl refl)), items_known words id attr items i a (λ x is. h x (inr is)))

fewer_known : (words : Texts) (items : List Item) → ItemsKnown words items → ItemsKnown words (without_number items)
fewer_known words items h x is = h x (filter_within (λ item. not item.numeric) items x is)

tie_known : (words : Texts) (id : Sym) (items : List Item) → 24 ≤ length words → IsKnown words id → ItemsKnown words items → AreTriplesKnown words (tie_elements id items)
tie_known words id items h i known = (
  (i, word_known words 15 h (omega arith), tt),
  triples_append words (map (λ item. plain_triple id non_numeric_word item.value) (without_number items)) _
      (items_known words id non_numeric_word (without_number items) i (word_known words 16 h (omega arith)) (fewer_known words items known))
      ((i, word_known words 17 h (omega arith), tt), tt),
)

more_known : (words : Texts) (id : Sym) (why : Impasse) (items : List Item) → 24 ≤ length words → IsKnown words id → ItemsKnown words items
    → AreTriplesKnown words (more_elements id why items)
more_known words id impasse.Tie items h i known =
    triples_append words (item_elements id items) (tie_elements id items) (items_known words id item_word items i (word_known words 14 h (omega arith)) known) (tie_known words id items h i known)
more_known words id impasse.Top items h i known = items_known words id item_word items i (word_known words 14 h (omega arith)) known
more_known words id impasse.Conflict items h i known = items_known words id item_word items i (word_known words 14 h (omega arith)) known
more_known words id impasse.Constraint items h i known = items_known words id item_word items i (word_known words 14 h (omega arith)) known
more_known words id impasse.StateNoChange items h i known = items_known words id item_word items i (word_known words 14 h (omega arith)) known
more_known words id impasse.OperatorNoChange items h i known = items_known words id item_word items i (word_known words 14 h (omega arith)) known

substate_known : (words : Texts) (superstate id : Sym) (why : Impasse) (items : List Item) → 24 ≤ length words → IsKnown words superstate → IsKnown words id → ItemsKnown words items
    → AreTriplesKnown words (substate superstate id why items)
substate_known words superstate id why items h above i known =
    let state = word_known words 0 h (omega arith) in
    let type_is = word_known words 6 h (omega arith) in
    let above_is = word_known words 5 h (omega arith) in
    let quiet = word_known words 12 h (omega arith) in
    let t_is = word_known words 13 h (omega arith) in
    let why_is = word_known words 9 h (omega arith) in
    let choices = word_known words 10 h (omega arith) in
    let about = word_known words 11 h (omega arith) in
    ((i, type_is, state), ((i, above_is, above), ((i, quiet, t_is), ((i, why_is, impasse_known words why h), ((i, choices, choices_known words why h), ((i, about, attribute_known words why h), more_known words id why items h i known))))))

-- what a goal has that a table and letters know
abbrev GoalsKnown : Texts → List ℕ → List Goal → Type 0
GoalsKnown words letters goals = AreGoalsKnown words letters goals

below_known : (words : Texts) (letters : List ℕ) (superstate : Sym) (goals : List Goal) → 24 ≤ length words → IsKnown words superstate → GoalsKnown words letters goals
    → AreTriplesKnown words (elements_below superstate goals)
below_known words letters superstate [] h above known = tt
below_known words letters superstate (goal ∷ goals) h above known =
    let g = known goal (inl refl) in
    triples_append words (substate superstate goal.id goal.impasse goal.items) (elements_below goal.id goals)
    (substate_known words superstate goal.id goal.impasse goal.items h above g.id_known g.items_known)
    (below_known words letters goal.id goals h g.id_known (λ x is. known x (inr is)))

-- the links and words of the top goal are the architecture's
top_known : (words : Texts) (id : Sym) → 24 ≤ length words → IsKnown words id → AreTriplesKnown words (top_elements id)
top_known words id h s =
    let i : (65 ≤ 73) × (73 ≤ 90) = (omega arith, omega arith) in
    let at_one = word_known words 1 h (omega arith) in
    let at_two = word_known words 2 h (omega arith) in
    let at_three = word_known words 3 h (omega arith) in
    let at_four = word_known words 4 h (omega arith) in
    let at_five = word_known words 5 h (omega arith) in
    let at_six = word_known words 6 h (omega arith) in
    let at_zero = word_known words 0 h (omega arith) in
    ((i, at_three, i), ((i, at_four, i), ((s, at_two, i), ((s, at_five, at_one), ((s, at_six, at_zero), tt)))))

goals_hold : (words : Texts) (letters : List ℕ) (goals : List Goal) → 24 ≤ length words → GoalsKnown words letters goals → AreTriplesKnown words (goal_elements goals)
goals_hold words letters [] h known = tt
goals_hold words letters (top ∷ goals) h known =
    let t = known top (inl refl) in
    triples_append words (top_elements top.id) (elements_below top.id goals) (top_known words top.id h t.id_known) (below_known words letters top.id goals h t.id_known (λ x is. known x (inr is)))

-- so is the word of the element of a selected operator
selection_holds : (words : Texts) (goal : Goal) (selected : Option Selection) → 24 ≤ length words → IsKnown words goal.id → IsSelectionKnown words selected
    → AreTriplesKnown words (selected_by_goal goal selected)
selection_holds words goal None h id known = tt
selection_holds words goal (Some selection) h id known = ((id, word_known words 7 h (omega arith), known), tt)

selections_hold : (words : Texts) (letters : List ℕ) (goals : List Goal) → 24 ≤ length words → GoalsKnown words letters goals → AreTriplesKnown words (flat_map selected_element goals)
selections_hold words letters [] h known = tt
selections_hold words letters (goal ∷ goals) h known =
    let g = known goal (inl refl) in
    triples_append words (selected_element goal) (flat_map selected_element goals) (selection_holds words goal goal.selected h g.id_known g.selection_known)
    (selections_hold words letters goals h (λ x is. known x (inr is)))

-- what stands in the lists that hold triples up
pub record KnowsSupports (words : Texts) (s : Supports) : Type 0 where
  pub rows_known : AreRowsKnown words s.rows
  pub inputs_known : AreTriplesKnown words s.inputs

held_known : (words : Texts) (letters : List ℕ) (goals : List Goal) (s : Supports) → 24 ≤ length words → AreGoalsKnown words letters goals → KnowsSupports words s
    → AreTriplesKnown words (held s.rows goals s.inputs)
held_known words letters goals s first known h =
    triples_append words (goal_elements goals) _ (goals_hold words letters goals first known)
    (triples_append words (flat_map selected_element goals) _ (selections_hold words letters goals first known)
    (triples_append words s.inputs _ h.inputs_known (rows_hold words s.rows goals s.rows h.rows_known)))

pub kept_known : (words : Texts) (letters : List ℕ) (goals : List Goal) (s : Supports) → 24 ≤ length words → AreGoalsKnown words letters goals → KnowsSupports words s
    → AreTriplesKnown words (kept_triples goals s)
kept_known words letters goals s first known h =
    let all = held s.rows goals s.inputs in
    triples_filter words (λ t. is_some (level_in goals (reaches goals all) t.id)) all (held_known words letters goals s first known h)

-- ---- what is left of rows and inputs

row_known : (words : Texts) (rows : List Preference) (row : Preference) → AreRowsKnown words rows → IsIn row rows → AreKnown words (symbols_of_wish row.wish)
row_known words [] row h is = absurd is
row_known words (r ∷ rows) row h (inl e) = subst (λ (x : Preference). AreKnown words (symbols_of_wish x.wish)) e h.0
row_known words (r ∷ rows) row h (inr is) = row_known words rows row h.1 is

pub rows_left : (words : Texts) (old new : List Preference) → ((row : Preference) → IsIn row new → IsIn row old) → AreRowsKnown words old → AreRowsKnown words new
rows_left words old [] within h = tt
rows_left words old (row ∷ new) within h = (row_known words old row h (within row (inl refl)), rows_left words old new (λ x is. within x (inr is)) h)

triple_known : (words : Texts) (triples : List Triple) (t : Triple) → AreTriplesKnown words triples → IsIn t triples → IsKnown words t.id × IsKnown words t.attr × IsKnown words t.value
triple_known words [] t h is = absurd is
triple_known words (u ∷ triples) t h (inl e) = subst (λ (x : Triple). IsKnown words x.id × IsKnown words x.attr × IsKnown words x.value) e h.0
triple_known words (u ∷ triples) t h (inr is) = triple_known words triples t h.1 is

pub triples_left : (words : Texts) (old new : List Triple) → ((t : Triple) → IsIn t new → IsIn t old) → AreTriplesKnown words old → AreTriplesKnown words new
triples_left words old [] within h = tt
triples_left words old (t ∷ new) within h = (triple_known words old t h (within t (inl refl)), triples_left words old new (λ x is. within x (inr is)) h)

row_in_range : (rows : List Preference) (row : Preference) → AreInRange rows → IsIn row rows → IsNumberInRange row.wish.kind row.wish.referent
row_in_range [] row h is = absurd is
row_in_range (r ∷ rows) row h (inl e) = subst (λ (x : Preference). IsNumberInRange x.wish.kind x.wish.referent) e h.0
row_in_range (r ∷ rows) row h (inr is) = row_in_range rows row h.1 is

pub range_left : (old new : List Preference) → ((row : Preference) → IsIn row new → IsIn row old) → AreInRange old → AreInRange new
range_left old [] within h = tt
range_left old (row ∷ new) within h = (row_in_range old row h (within row (inl refl)), range_left old new (λ x is. within x (inr is)) h)

-- ---- the elements afterwards

placed_known : (words table : Texts) (triples : List Triple) (t : Triple) → IsKnown table t.id × IsKnown table t.attr × IsKnown table t.value → AreTriplesKnown table triples
    → AreTriplesKnown table (with_triple_at words triples t)
placed_known words table [] t k h = (k, tt)
placed_known words table (u ∷ triples) t k h = by (is_lt (triple_cmp words t u)) (placed_known words table triples t k h.1)
  where
    later : (b : Bool) → AreTriplesKnown table (with_triple_at words triples t) → AreTriplesKnown table (cond b (u ∷ with_triple_at words triples t) (u ∷ triples))
    later true rest = (h.0, rest)
    later false rest = h

    by : (b : Bool) → AreTriplesKnown table (with_triple_at words triples t)
        → AreTriplesKnown table (cond b (t ∷ u ∷ triples) (cond (is_lt (triple_cmp words u t)) (u ∷ with_triple_at words triples t) (u ∷ triples)))
    by true rest = (k, h)
    by false rest = later (is_lt (triple_cmp words u t)) rest

ordered_known : (words table : Texts) (triples : List Triple) → AreTriplesKnown table triples → AreTriplesKnown table (in_order words triples)
ordered_known words table [] h = tt
ordered_known words table (t ∷ triples) h = placed_known words table (in_order words triples) t h.0 (ordered_known words table triples h.1)

tagged_known : (words : Texts) (goals : List Goal) (last : ℕ) (triples : List Triple) → AreTriplesKnown words triples → AreElementsKnown words (tagged goals last triples)
tagged_known words goals last [] h = tt
tagged_known words goals last (t ∷ triples) h = (h.0, tagged_known words goals (suc last) triples h.1)

-- what stays was known, and what is new is kept
pub after_known : (words : Texts) (goals : List Goal) (kept : List Triple) (last : ℕ) (elements : List Element) → AreTriplesKnown words kept → AreElementsKnown words elements
    → AreElementsKnown words (elements_after words goals kept last elements)
after_known words goals kept last elements h k =
    let old = filter (stays goals kept) elements in
    elements_append words old _ (elements_filter words (stays goals kept) elements k)
    (tagged_known words goals last _ (ordered_known words words (new_triples old kept) (triples_filter words _ kept h)))
