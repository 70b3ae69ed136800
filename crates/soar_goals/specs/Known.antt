-- Goals whose words are in the table.
use Rattle.std.specs.Prelude.{List, [], ◌∷◌}
use Rattle.soar_sym.specs.Words.{Texts, IsKnown}
use Rattle.defs_soar.specs.declared.goal.Goal.{Goal}
use Rattle.defs_soar.specs.declared.goal.Item.{Item}

-- what the items are about is of the table
abbrev pub AreItemsKnown : Texts → List Item → Type 0
AreItemsKnown words [] = Unit {0}
AreItemsKnown words (item ∷ items) = IsKnown words item.value × AreItemsKnown words items

-- the identifiers of the goals and what their items are about are of the table
abbrev pub AreGoalsKnown : Texts → List Goal → Type 0
AreGoalsKnown words [] = Unit {0}
AreGoalsKnown words (goal ∷ goals) = (IsKnown words goal.id × AreItemsKnown words goal.items) × AreGoalsKnown words goals
