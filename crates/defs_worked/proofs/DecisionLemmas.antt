-- The goals that stay after a decision's walk are those at the front.
use Rattle.std.proofs.Common.{◌≡◌, refl, ◌∙◌, ap, ℕ, zero, suc, Bool, true, false, List, [], ◌∷◌, length, take, Option, Some, None}
use Rattle.soar_sym.specs.declared.symbol.Sym.{Sym}
use Rattle.soar_wm.specs.declared.element.Element.{Element}
use Rattle.defs_soar.specs.declared.goal.Goal.{Goal}
use Rattle.defs_soar.specs.declared.goal.Impasse.TheVariants as impasse
use Rattle.defs_soar.specs.declared.goal.Item.{Item}
use Rattle.defs_soar.specs.declared.preference.Preference.{Preference}
use Rattle.defs_soar.specs.Goals.{goal_ids}
use Rattle.defs_soar.specs.Laws.{WalkKeepsTheFront}
use Rattle.defs_soar.specs.Verdicts.{Verdict, are_left, is_impasse, drawn_from, uses_word, items_for}
use Rattle.defs_soar.specs.Walk.{View, Decided, selects_operator, meets, Walked, walked, below_goal, without_selection, with_selection, is_among_left, has_impasse, verdict_at, renewed}

abbrev IsFront : Walked → List Goal → Type 0
IsFront w goals = goal_ids w.goals ≡ take (length w.goals) (goal_ids goals)

ends_there : (g h : Goal) (deeper : List Goal) (d : Decided) → h.id ≡ g.id → IsFront (record { goals = h ∷ []; decided = d }) (g ∷ deeper)
ends_there g h deeper d e = ap (λ s. s ∷ []) e

goes_below : (g h : Goal) (deeper : List Goal) (w : Walked) → h.id ≡ g.id → IsFront w deeper → IsFront (below_goal h w) (g ∷ deeper)
goes_below g h deeper w e f = λ i. e i ∷ f i

same_id : (renewal : Option (List Item)) (g : Goal) → (renewed renewal g).id ≡ g.id
same_id None g = refl
same_id (Some items) g = refl

selection_id : (elements : List Element) (rows : List Preference) (g : Goal) (operator : Option Sym) → (with_selection elements rows g operator).id ≡ g.id
selection_id elements rows g None = refl
selection_id elements rows g (Some operator) = refl

-- the walk at one goal, over what its verdict is
at_goal : (v : View) (g h : Goal) (deeper : List Goal) → h.id ≡ g.id → ((r : Option (List Item)) → IsFront (walked v r deeper) deeper) → (d : Verdict)
    → IsFront (elim d as (λ _. Walked) [
      | are_left left ↦ elim (is_among_left left h.selected) as (λ _. Walked) [
        | true ↦ elim (length deeper) as (λ _. Walked) [
          | zero ↦ record { goals = h ∷ []; decided = meets impasse.OperatorNoChange [] }
          | suc n ↦ below_goal h (walked v None deeper)
        ]
        | false ↦ let operator = drawn_from v.mode v.random left in
            record { goals = with_selection v.elements v.rows h operator ∷ []; decided = selects_operator operator (uses_word v.mode left) }
      ]
      | is_impasse why scored ↦ let items = items_for v.elements h.id scored in
          elim (has_impasse why deeper) as (λ _. Walked) [
            | true ↦ below_goal (without_selection h) (walked v (Some items) deeper)
            | false ↦ record { goals = without_selection h ∷ []; decided = meets why items }
          ]
    ]) (g ∷ deeper)
at_goal v g h deeper e below (are_left left) = among (is_among_left left h.selected) (length deeper)
  where
    among : (b : Bool) (n : ℕ) → IsFront (elim b as (λ _. Walked) [
      | true ↦ elim n as (λ _. Walked) [
        | zero ↦ record { goals = h ∷ []; decided = meets impasse.OperatorNoChange [] }
        | suc n ↦ below_goal h (walked v None deeper)
      ]
      | false ↦ let operator = drawn_from v.mode v.random left in
          record { goals = with_selection v.elements v.rows h operator ∷ []; decided = selects_operator operator (uses_word v.mode left) }
    ]) (g ∷ deeper)
    among true zero = ends_there g h deeper (meets impasse.OperatorNoChange []) e
    among true (suc n) = goes_below g h deeper (walked v None deeper) e (below None)
    among false n = let operator = drawn_from v.mode v.random left in
        ends_there g (with_selection v.elements v.rows h operator) deeper (selects_operator operator (uses_word v.mode left)) (selection_id v.elements v.rows h operator ∙ e)
at_goal v g h deeper e below (is_impasse why scored) = meeting (has_impasse why deeper)
  where
    meeting : (b : Bool) → IsFront (let items = items_for v.elements h.id scored in elim b as (λ _. Walked) [
      | true ↦ below_goal (without_selection h) (walked v (Some items) deeper)
      | false ↦ record { goals = without_selection h ∷ []; decided = meets why items }
    ]) (g ∷ deeper)
    meeting true = let items = items_for v.elements h.id scored in goes_below g (without_selection h) deeper (walked v (Some items) deeper) e (below (Some items))
    meeting false = ends_there g (without_selection h) deeper (meets why (items_for v.elements h.id scored)) e

pub walk_keeps_the_front : WalkKeepsTheFront
walk_keeps_the_front v renewal goals = front renewal goals
  where
    front : (renewal : Option (List Item)) (goals : List Goal) → IsFront (walked v renewal goals) goals
    front renewal [] = refl
    front renewal (g ∷ deeper) =
        let h = renewed renewal g in at_goal v g h deeper (same_id renewal g) (λ r. front r deeper) (verdict_at v h.id)
