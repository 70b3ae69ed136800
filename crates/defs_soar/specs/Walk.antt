-- The walk of a decision from the top goal down (Soar manual, chapter 2, decision procedure).
use Rattle.std.specs.Prelude.{ℕ, zero, suc, Bool, true, false, List, [], ◌∷◌, length, Option, Some, None}
use Rattle.soar_sym.specs.Words.{Texts}
use Rattle.soar_sym.specs.declared.symbol.Sym.{Sym}
use Rattle.defs_match.specs.Element.{Element}
use Rattle.defs_soar.specs.declared.choice.Mode.{Mode}
use Rattle.defs_soar.specs.declared.choice.Scored.{Scored}
use Rattle.defs_soar.specs.declared.goal.Goal.{Goal}
use Rattle.defs_soar.specs.declared.goal.Impasse.{Impasse}
use Rattle.defs_soar.specs.declared.goal.Impasse.TheVariants as impasse
use Rattle.defs_soar.specs.declared.goal.Item.{Item}
use Rattle.defs_soar.specs.declared.goal.Selection.{Selection}
use Rattle.defs_soar.specs.declared.preference.Preference.{Preference}
use Rattle.defs_soar.specs.Architecture.{operator_word}
use Rattle.defs_soar.specs.Choice.{choice_of}
use Rattle.defs_soar.specs.Preferences.{slot_of}
use Rattle.defs_soar.specs.Sorted.{has_symbol}
use Rattle.defs_soar.specs.Uses.{marked_element, maker_of}
use Rattle.defs_soar.specs.Verdicts.{values_of_scored, marked_tag, items_for, Verdict, are_left, is_impasse, verdict_of, impasse_eq, uses_word, drawn_from}

-- how the walk ends: an operator is selected at the last goal left, or an impasse arises below it
pub data Decided : Type 0 where
  selects_operator : Option Sym → Bool → Decided  -- and whether that took a word
  meets : Impasse → List Item → Decided

-- the goals that stay, from the top
pub record Walked : Type 0 where
  pub goals : List Goal
  pub decided : Decided

abbrev pub below_goal : Goal → Walked → Walked
below_goal goal w = record w { goals = goal ∷ w.goals }

abbrev pub without_selection : Goal → Goal
without_selection goal = record goal { selected = None }

abbrev pub with_selection : List Element → List Preference → Goal → Option Sym → Goal
with_selection elements rows goal None = without_selection goal
with_selection elements rows goal (Some operator) =
    let tag = marked_tag elements goal.id operator in
    record goal { selected = Some (record { operator = operator; tag = tag; maker = maker_of rows (marked_element goal.id operator tag) }) }

abbrev pub is_among_left : List Scored → Option Selection → Bool
is_among_left left None = false
is_among_left left (Some selection) = has_symbol (values_of_scored left) selection.operator

abbrev pub has_impasse : Impasse → List Goal → Bool
has_impasse why [] = false
has_impasse why (goal ∷ goals) = impasse_eq goal.impasse why

-- what a decision looks at
pub record View : Type 0 where
  pub words : Texts
  pub rows : List Preference
  pub elements : List Element
  pub mode : Mode
  pub random : List ℕ

abbrev pub verdict_at : View → Sym → Verdict
verdict_at v goal = verdict_of (choice_of v.words (slot_of v.rows goal operator_word))

abbrev pub renewed : Option (List Item) → Goal → Goal
renewed None goal = goal
renewed (Some items) goal = record goal { items = items }

-- At each goal a selected operator that is left stays, and the walk goes on below it. Else one of those that are left is drawn.
-- Where none is left, the goal below stays if it has that impasse, with its items renewed.
abbrev pub walked : View → Option (List Item) → List Goal → Walked
walked v renewal [] = record { goals = []; decided = meets impasse.Top [] }
walked v renewal (goal₀ ∷ deeper) =
    let goal = renewed renewal goal₀ in
    elim (verdict_at v goal.id) [
      | are_left left ↦ elim (is_among_left left goal.selected) [
        | true ↦ elim (length deeper) [
          | zero ↦ record { goals = goal ∷ []; decided = meets impasse.OperatorNoChange [] }
          | suc n ↦ below_goal goal (walked v None deeper)
        ]
        | false ↦ let operator = drawn_from v.mode v.random left in
            record { goals = with_selection v.elements v.rows goal operator ∷ []; decided = selects_operator operator (uses_word v.mode left) }
      ]
      | is_impasse why scored ↦ let items = items_for v.elements goal.id scored in
          elim (has_impasse why deeper) [
            | true ↦ below_goal (without_selection goal) (walked v (Some items) deeper)
            | false ↦ record { goals = without_selection goal ∷ []; decided = meets why items }
          ]
    ]
