-- A selection that a walk makes was made by a firing of a row.
use Rattle.std.proofs.Common.{ℕ, ◌≤◌, min, Bool, true, false, cond, List, [], ◌∷◌, map, filter, Option, Some, None, arith}
use Rattle.soar_sym.specs.declared.symbol.Sym.{Sym}
use Rattle.defs_soar.specs.declared.goal.Goal.{Goal}
use Rattle.defs_soar.specs.declared.goal.Item.{Item}
use Rattle.defs_soar.specs.declared.preference.Preference.{Preference}
use Rattle.defs_soar.specs.Uses.{least_from, least_number, makes_element, marked_element}
use Rattle.defs_soar.specs.Verdicts.{Verdict, are_left, is_impasse, drawn_from, marked_tag, uses_word}
use Rattle.defs_soar.specs.Walk.{View, is_among_left, renewed, verdict_at}
use Rattle.soar_decide.specs.Outcomes as outcome
use Rattle.decision_laws.specs.Walks.{walked_by}
use Rattle.decision_walk.specs.Makers.{AreFiringsUpTo, AreMakersUpTo, IsMakerUpTo, WalkKeepsMakers}
use Rattle.decision_walk.proofs.WalkLemmas.{of_walks}

-- ---- the maker of an element

lesser_up_to : (last n m : ℕ) → n ≤ last → min n m ≤ last
lesser_up_to last n m h = omega (arith, h)

least_up_to : (last n : ℕ) (p : Preference → Bool) (rows : List Preference) → n ≤ last → least_from n (map (λ row. row.firing) (filter p rows)) ≤ last
least_up_to last n p [] h = h
least_up_to last n p (row ∷ rows) h = by (p row) (least_up_to last n p rows h) (least_up_to last (min n row.firing) p rows (lesser_up_to last n row.firing h))
  where
    by : (b : Bool) → least_from n (map (λ (r : Preference). r.firing) (filter p rows)) ≤ last → least_from (min n row.firing) (map (λ (r : Preference). r.firing) (filter p rows)) ≤ last
        → least_from n (map (λ (r : Preference). r.firing) (cond b (row ∷ filter p rows) (filter p rows))) ≤ last
    by true one two = two
    by false one two = one

pub maker_up_to : (last : ℕ) (p : Preference → Bool) (rows : List Preference) → AreFiringsUpTo last rows → least_number (map (λ row. row.firing) (filter p rows)) ≤ last
maker_up_to last p [] h = omega (arith)
maker_up_to last p (row ∷ rows) h = by (p row) (maker_up_to last p rows h.1) (least_up_to last row.firing p rows h.0)
  where
    by : (b : Bool) → least_number (map (λ (r : Preference). r.firing) (filter p rows)) ≤ last → least_from row.firing (map (λ (r : Preference). r.firing) (filter p rows)) ≤ last
        → least_number (map (λ (r : Preference). r.firing) (cond b (row ∷ filter p rows) (filter p rows))) ≤ last
    by true one two = two
    by false one two = one

-- ---- what an outcome leaves selected

selected_up_to : (last : ℕ) (v : View) (goal : Sym) (operator : Option Sym) → AreFiringsUpTo last v.rows → IsMakerUpTo last (outcome.selected_at v goal operator)
selected_up_to last v goal None rows = tt
selected_up_to last v goal (Some operator) rows = maker_up_to last (makes_element (marked_element goal operator (marked_tag v.elements goal operator))) v.rows rows

ended : (last : ℕ) (v : View) (h : Goal) (d : Verdict) → AreFiringsUpTo last v.rows → IsMakerUpTo last h.selected → AreMakersUpTo last (walked_by h (outcome.outcome_of v h d)).goals
ended last v h (are_left left) rows old = by (is_among_left left h.selected)
  where
    by : (b : Bool) → AreMakersUpTo last (walked_by h (cond b outcome.stays (outcome.selects (outcome.selected_at v h.id (drawn_from v.mode v.random left)) (uses_word v.mode left)))).goals
    by true = (old, tt)
    by false = (selected_up_to last v h.id (drawn_from v.mode v.random left) rows, tt)
ended last v h (is_impasse why scored) rows old = (tt, tt)

renewed_up_to : (last : ℕ) (r : Option (List Item)) (goal : Goal) → IsMakerUpTo last goal.selected → IsMakerUpTo last (renewed r goal).selected
renewed_up_to last None goal h = h
renewed_up_to last (Some items) goal h = h

pub walk_keeps_makers : WalkKeepsMakers
walk_keeps_makers v [] last rows old = tt
walk_keeps_makers v (goal ∷ deeper) last rows old =
    of_walks v (λ r goals w. AreMakersUpTo last goals → AreMakersUpTo last w.goals)
    (λ r goal deeper old. ended last v (renewed r goal) (verdict_at v (renewed r goal).id) rows (renewed_up_to last r goal old.0))
    (λ r goal deeper w below old. (renewed_up_to last r goal old.0, below old.1))
    (λ r goal deeper w why items e below old. (tt, below old.1))
    None goal deeper old
