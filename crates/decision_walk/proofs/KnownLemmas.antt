-- What a walk selects or is about is a value of a row, so it is a symbol of the table.
use Rattle.std.proofs.Common.{ℕ, zero, suc, Bool, true, false, ◌&&◌, ◌||◌, cond, not, List, [], ◌∷◌, filter, Option, Some, None, subst}
use Rattle.std.specs.Ordering.{is_lt}
use Rattle.std.specs.Option.{option_map}
use Rattle.soar_sym.specs.Equality.{symbol_eq}
use Rattle.soar_sym.specs.Order.{symbol_cmp}
use Rattle.soar_sym.specs.Words.{Texts, IsKnown}
use Rattle.soar_sym.specs.declared.symbol.Sym.{Sym}
use Rattle.soar_rule.specs.Symbols.{AreKnown as AreSymbolsKnown}
use Rattle.soar_wm.specs.declared.element.Element.{Element}
use Rattle.defs_soar.specs.declared.choice.Choice.{Choice}
use Rattle.defs_soar.specs.declared.choice.Choice.TheVariants as choice
use Rattle.defs_soar.specs.declared.choice.Scored.{Scored}
use Rattle.defs_soar.specs.declared.goal.Goal.{Goal}
use Rattle.defs_soar.specs.declared.goal.Item.{Item}
use Rattle.defs_soar.specs.declared.goal.Selection.{Selection}
use Rattle.defs_soar.specs.declared.preference.PrefKind.{PrefKind}
use Rattle.defs_soar.specs.declared.preference.PrefKind.TheVariants as kind
use Rattle.defs_soar.specs.declared.preference.Preference.{Preference}
use Rattle.defs_soar.specs.Architecture.{operator_word}
use Rattle.defs_soar.specs.Choice.{all_indifferent, all_scored, among, among_candidates, among_unbeaten, best_of, candidates, choice_of, has_kind, if_some, is_beaten, unbeaten, values_of, with_required, without_worst}
use Rattle.defs_soar.specs.Sorted.{with_symbol}
use Rattle.defs_soar.specs.Values.{is_kind}
use Rattle.defs_soar.specs.Verdicts.{drawn_from, items_for, uses_word, value_at, verdict_of}
use Rattle.defs_soar.specs.Walk.{View, Walked, below_goal, is_among_left, renewed}
use Rattle.soar_choose.specs.Rows.{AreKnown}
use Rattle.soar_decide.specs.Outcomes as outcome
use Rattle.soar_decide.specs.Outcomes.{operator_rows}
use Rattle.decision_laws.specs.Walks.{walked_by}
use Rattle.soar_goals.specs.Known.{AreGoalsKnown, AreItemsKnown}
use Rattle.decision_walk.specs.Known.{AreSelectionsKnown, IsOperatorKnown, IsSelectionKnown, IsWalkKnown, WalkStaysKnown}
use Rattle.decision_walk.proofs.WalkLemmas.{of_walks}

-- ---- values of rows

known_with : (words : Texts) (symbols : List Sym) (s : Sym) → AreSymbolsKnown words symbols → IsKnown words s → AreSymbolsKnown words (with_symbol words symbols s)
known_with words [] s known h = (h, tt)
known_with words (t ∷ symbols) s known h = by (symbol_eq s t) (is_lt (symbol_cmp words s t)) (known_with words symbols s known.1 h)
  where
    by : (b d : Bool) → AreSymbolsKnown words (with_symbol words symbols s) → AreSymbolsKnown words (cond b (t ∷ symbols) (cond d (s ∷ t ∷ symbols) (t ∷ with_symbol words symbols s)))
    by true d rest = known
    by false true rest = (h, known)
    by false false rest = (known.0, rest)

known_values : (words : Texts) (k : PrefKind) (rows : List Preference) → AreKnown words rows → AreSymbolsKnown words (values_of words k rows)
known_values words k [] known = tt
known_values words k (row ∷ rows) known = by (is_kind row.wish.kind k) (known_values words k rows known.2)
  where
    by : (b : Bool) → AreSymbolsKnown words (values_of words k rows) → AreSymbolsKnown words (cond b (with_symbol words (values_of words k rows) row.wish.value) (values_of words k rows))
    by true rest = known_with words (values_of words k rows) row.wish.value rest known.0
    by false rest = rest

known_filter : (words : Texts) (p : Sym → Bool) (symbols : List Sym) → AreSymbolsKnown words symbols → AreSymbolsKnown words (filter p symbols)
known_filter words p [] known = tt
known_filter words p (s ∷ symbols) known = by (p s) (known_filter words p symbols known.1)
  where
    by : (b : Bool) → AreSymbolsKnown words (filter p symbols) → AreSymbolsKnown words (cond b (s ∷ filter p symbols) (filter p symbols))
    by true rest = (known.0, rest)
    by false rest = rest

known_either : (words : Texts) (first second : List Sym) → AreSymbolsKnown words first → AreSymbolsKnown words second → AreSymbolsKnown words (if_some first second)
known_either words [] second h k = k
known_either words (s ∷ first) second h k = h

-- ---- the choice

abbrev AreScoredKnown : Texts → List Scored → Type 0
AreScoredKnown words [] = Unit {0}
AreScoredKnown words (s ∷ scored) = IsKnown words s.value × AreScoredKnown words scored

abbrev scored_in : Choice → List Scored
scored_in (choice.Left scored) = scored
scored_in (choice.Tie scored) = scored
scored_in (choice.Conflict scored) = scored
scored_in (choice.Constraint scored) = scored
scored_in choice.NoCandidate = []

abbrev IsChoiceKnown : Texts → Choice → Type 0
IsChoiceKnown words c = AreScoredKnown words (scored_in c)

known_scored : (words : Texts) (rows : List Preference) (values : List Sym) → AreSymbolsKnown words values → AreScoredKnown words (all_scored rows values)
known_scored words rows [] known = tt
known_scored words rows (s ∷ values) known = (known.0, known_scored words rows values known.1)

known_among : (words : Texts) (rows : List Preference) (values : List Sym) → AreSymbolsKnown words values → IsChoiceKnown words (among rows values)
known_among words rows [] known = tt
known_among words rows (a ∷ []) known = (known.0, tt)
known_among words rows (a ∷ b ∷ values) known = by (all_indifferent rows (a ∷ b ∷ values))
  where
    by : (c : Bool) → IsChoiceKnown words (cond c (choice.Left (all_scored rows (a ∷ b ∷ values))) (choice.Tie (all_scored rows (a ∷ b ∷ values))))
    by true = known_scored words rows (a ∷ b ∷ values) known
    by false = known_scored words rows (a ∷ b ∷ values) known

known_unbeaten : (words : Texts) (rows : List Preference) (all values : List Sym) → AreSymbolsKnown words all → AreSymbolsKnown words values → IsChoiceKnown words (among_unbeaten rows all values)
known_unbeaten words rows all [] every known = known_scored words rows all every
known_unbeaten words rows all (a ∷ values) every known =
    let best = known_either words (filter (has_kind rows kind.Best) (a ∷ values)) (a ∷ values) (known_filter words (has_kind rows kind.Best) (a ∷ values) known) known in
    let left = best_of rows (a ∷ values) in
    known_among words rows (without_worst rows left)
    (known_either words (filter (λ v. not (has_kind rows kind.Worst v)) left) left (known_filter words (λ v. not (has_kind rows kind.Worst v)) left best) best)

known_candidates : (words : Texts) (rows : List Preference) (values : List Sym) → AreSymbolsKnown words values → IsChoiceKnown words (among_candidates rows values)
known_candidates words rows [] known = tt
known_candidates words rows (a ∷ values) known =
    known_unbeaten words rows (a ∷ values) (unbeaten rows (a ∷ values)) known (known_filter words (λ b. not (is_beaten rows (a ∷ values) b)) (a ∷ values) known)

known_required : (words : Texts) (rows : List Preference) (required : List Sym) → AreKnown words rows → AreSymbolsKnown words required → IsChoiceKnown words (with_required words rows required)
known_required words rows [] known h =
    known_candidates words rows (candidates words rows)
    (known_filter words (λ v. not (has_kind rows kind.Prohibit v || has_kind rows kind.Reject v)) (values_of words kind.Accept rows) (known_values words kind.Accept rows known))
known_required words rows (a ∷ []) known h = by (has_kind rows kind.Prohibit a)
  where
    by : (b : Bool) → IsChoiceKnown words (cond b (choice.Constraint (all_scored rows (a ∷ []))) (choice.Left (all_scored rows (a ∷ []))))
    by true = (h.0, tt)
    by false = (h.0, tt)
known_required words rows (a ∷ b ∷ required) known h = known_scored words rows (a ∷ b ∷ required) h

known_choice : (words : Texts) (rows : List Preference) → AreKnown words rows → IsChoiceKnown words (choice_of words rows)
known_choice words rows known = known_required words rows (values_of words kind.Require rows) known (known_values words kind.Require rows known)

-- ---- the outcome

known_slot : (words : Texts) (rows : List Preference) (goal : Sym) → AreKnown words rows → AreKnown words (operator_rows rows goal)
known_slot words [] goal known = tt
known_slot words (row ∷ rows) goal known = by (symbol_eq row.wish.id goal && symbol_eq row.wish.attr operator_word) (known_slot words rows goal known.2)
  where
    by : (b : Bool) → AreKnown words (operator_rows rows goal) → AreKnown words (cond b (row ∷ operator_rows rows goal) (operator_rows rows goal))
    by true rest = (known.0, known.1, rest)
    by false rest = rest

known_at : (words : Texts) (left : List Scored) (n : ℕ) → AreScoredKnown words left → IsOperatorKnown words (value_at left n)
known_at words [] n known = tt
known_at words (s ∷ left) zero known = known.0
known_at words (s ∷ left) (suc n) known = known_at words left n known.1

known_items : (words : Texts) (elements : List Element) (goal : Sym) (scored : List Scored) → AreScoredKnown words scored → AreItemsKnown words (items_for elements goal scored)
known_items words elements goal [] known = tt
known_items words elements goal (s ∷ scored) known = (known.0, known_items words elements goal scored known.1)

-- what is selected, or what the impasse is about
abbrev IsOutcomeKnown : Texts → outcome.Outcome → Type 0
IsOutcomeKnown words outcome.stays = Unit {0}
IsOutcomeKnown words (outcome.selects selection takes) = IsSelectionKnown words selection
IsOutcomeKnown words (outcome.meets why items) = AreItemsKnown words items

known_selected : (words : Texts) (v : View) (goal : Sym) (operator : Option Sym) → IsOperatorKnown words operator → IsSelectionKnown words (outcome.selected_at v goal operator)
known_selected words v goal None known = tt
known_selected words v goal (Some operator) known = known

known_outcome : (words : Texts) (v : View) (goal : Goal) (c : Choice) → IsChoiceKnown words c → IsOutcomeKnown words (outcome.outcome_of v goal (verdict_of c))
known_outcome words v goal (choice.Left left) known = by (is_among_left left goal.selected)
  where
    by : (b : Bool) → IsOutcomeKnown words (cond b outcome.stays (outcome.selects (outcome.selected_at v goal.id (drawn_from v.mode v.random left)) (uses_word v.mode left)))
    by true = tt
    by false = known_selected words v goal.id (drawn_from v.mode v.random left) (known_at words left _ known)
known_outcome words v goal (choice.Tie scored) known = known_items words v.elements goal.id scored known
known_outcome words v goal (choice.Conflict scored) known = known_items words v.elements goal.id scored known
known_outcome words v goal (choice.Constraint scored) known = known_items words v.elements goal.id scored known
known_outcome words v goal choice.NoCandidate known = tt

outcome_known : (v : View) (goal : Goal) → AreKnown v.words v.rows → IsOutcomeKnown v.words (outcome.outcome_at v goal)
outcome_known v goal known = known_outcome v.words v goal (choice_of v.words (operator_rows v.rows goal.id)) (known_choice v.words (operator_rows v.rows goal.id) (known_slot v.words v.rows goal.id known))

-- ---- the walk

known_option : (words : Texts) (selection : Option Selection) → IsSelectionKnown words selection → IsOperatorKnown words (option_map (λ s. s.operator) selection)
known_option words None known = tt
known_option words (Some selection) known = known

-- all symbols of the goal
record IsGoalKnown (words : Texts) (goal : Goal) : Type 0 where
  own : IsKnown words goal.id × AreItemsKnown words goal.items
  selected : IsSelectionKnown words goal.selected

ended : (words : Texts) (h : Goal) (found : outcome.Outcome) → IsGoalKnown words h → IsOutcomeKnown words found → IsWalkKnown words (walked_by h found)
ended words h outcome.stays known k = record { goals = (known.own, tt); selections = (known.selected, tt); decided = tt }
ended words h (outcome.selects selection takes) known k = record { goals = (known.own, tt); selections = (k, tt); decided = known_option words selection k }
ended words h (outcome.meets why items) known k = record { goals = (known.own, tt); selections = (tt, tt); decided = k }

abbrev IsRenewalKnown : Texts → Option (List Item) → Type 0
IsRenewalKnown words None = Unit {0}
IsRenewalKnown words (Some items) = AreItemsKnown words items

renewed_known : (words : Texts) (r : Option (List Item)) (goal : Goal) → IsRenewalKnown words r → IsGoalKnown words goal → IsGoalKnown words (renewed r goal)
renewed_known words None goal items known = known
renewed_known words (Some items) goal new known = record { own = (known.own.0, new); selected = known.selected }

below_known : (words : Texts) (h : Goal) (w : Walked) → IsGoalKnown words h → IsWalkKnown words w → IsWalkKnown words (below_goal h w)
below_known words h w known below = record { goals = (known.own, below.goals); selections = (known.selected, below.selections); decided = below.decided }

-- a walk over rows of which all symbols are known
abbrev Stays : View → Option (List Item) → List Goal → Walked → Type 0
Stays v r goals w = IsRenewalKnown v.words r → AreGoalsKnown v.words goals → AreSelectionsKnown v.words goals → IsWalkKnown v.words w

at_first : (words : Texts) (r : Option (List Item)) (goal : Goal) (deeper : List Goal)
    → IsRenewalKnown words r → AreGoalsKnown words (goal ∷ deeper) → AreSelectionsKnown words (goal ∷ deeper) → IsGoalKnown words (renewed r goal)
at_first words r goal deeper new known selected = renewed_known words r goal new (record { own = known.0; selected = selected.0 })

unselected : (words : Texts) (h : Goal) → IsGoalKnown words h → IsGoalKnown words (record h { selected = None })
unselected words h known = record { own = known.own; selected = tt }

pub walk_stays_known : WalkStaysKnown
walk_stays_known v [] rows known selected = record { goals = tt; selections = tt; decided = tt }
walk_stays_known v (goal ∷ deeper) rows known selected =
    of_walks v (Stays v)
    (λ r goal deeper new known selected. ended v.words (renewed r goal) (outcome.outcome_at v (renewed r goal)) (at_first v.words r goal deeper new known selected) (outcome_known v (renewed r goal) rows))
    (λ r goal deeper w below new known selected. below_known v.words (renewed r goal) w (at_first v.words r goal deeper new known selected) (below tt known.1 selected.1))
    (λ r goal deeper w why items e below new known selected.
    below_known v.words (record (renewed r goal) { selected = None }) w (unselected v.words (renewed r goal) (at_first v.words r goal deeper new known selected))
    (below (subst (IsOutcomeKnown v.words) e (outcome_known v (renewed r goal) rows)) known.1 selected.1))
    None goal deeper tt known selected
