-- Goals whose symbols are in the table stay so in a walk over rows whose symbols are.
use Rattle.std.specs.Prelude.{List, [], ◌∷◌, Option, Some, None}
use Rattle.soar_sym.specs.Words.{Texts, IsKnown}
use Rattle.soar_sym.specs.declared.symbol.Sym.{Sym}
use Rattle.soar_choose.specs.Rows.{AreKnown}
use Rattle.defs_soar.specs.declared.goal.Goal.{Goal}
use Rattle.defs_soar.specs.declared.goal.Selection.{Selection}
use Rattle.defs_soar.specs.Walk.{Decided, View, Walked, meets, selects_operator, walked}
use Rattle.soar_goals.specs.Known.{AreGoalsKnown, AreItemsKnown}

-- ---- what is selected

abbrev pub IsSelectionKnown : Texts → Option Selection → Type 0
IsSelectionKnown words None = Unit {0}
IsSelectionKnown words (Some selection) = IsKnown words selection.operator

abbrev pub AreSelectionsKnown : Texts → List Goal → Type 0
AreSelectionsKnown words [] = Unit {0}
AreSelectionsKnown words (goal ∷ goals) = IsSelectionKnown words goal.selected × AreSelectionsKnown words goals

-- ---- how a walk ends

abbrev pub IsOperatorKnown : Texts → Option Sym → Type 0
IsOperatorKnown words None = Unit {0}
IsOperatorKnown words (Some operator) = IsKnown words operator

abbrev pub IsDecidedKnown : Texts → Decided → Type 0
IsDecidedKnown words (selects_operator operator takes) = IsOperatorKnown words operator
IsDecidedKnown words (meets why items) = AreItemsKnown words items

-- the goals left, and what is selected or met below them
pub record IsWalkKnown (words : Texts) (w : Walked) : Type 0 where
  pub goals : AreGoalsKnown words w.goals
  pub selections : AreSelectionsKnown words w.goals
  pub decided : IsDecidedKnown words w.decided

abbrev pub WalkStaysKnown : Type 0
WalkStaysKnown =
    (v : View) (goals : List Goal) → AreKnown v.words v.rows → AreGoalsKnown v.words goals → AreSelectionsKnown v.words goals
    → IsWalkKnown v.words (walked v None goals)
