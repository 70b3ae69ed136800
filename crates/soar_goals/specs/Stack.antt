-- The stack of goals.
use Rattle.std.specs.Prelude.{ℕ, zero, suc, ◌≤◌, List, [], ◌∷◌, length, Option}
use Rattle.defs_soar.specs.declared.goal.Goal.{Goal}
use Rattle.defs_soar.specs.declared.goal.Item.{Item}
use Rattle.defs_soar.specs.declared.goal.Selection.{Selection}

-- the top goal is there, and at most ninety-nine substates are below it
pub record IsStack (goals : List Goal) : Type 0 where
  pub some : 1 ≤ length goals
  pub few : length goals ≤ 100

-- the goal with another selected operator, or with none
abbrev pub with_selected : Option Selection → Goal → Goal
with_selected selection goal = record goal { selected = selection }

-- the goal with other items
abbrev pub with_items : List Item → Goal → Goal
with_items items goal = record goal { items = items }

-- the goals with a change of one of them, so many goals below the top; all others are as before
abbrev pub with_change : ℕ → (Goal → Goal) → List Goal → List Goal
with_change below change [] = []
with_change zero change (goal ∷ goals) = change goal ∷ goals
with_change (suc below) change (goal ∷ goals) = goal ∷ with_change below change goals
