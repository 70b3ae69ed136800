use Rattle.std.proofs.Common.{◌≡◌, ◌++◌, take}
use Rattle.defs_soar.specs.Goals.{item_elements}
use Rattle.soar_settle.proofs.goal_elements.add_items.Given as goal

abbrev pub invariant-items : goal.invariant-items
invariant-items l = l.out ≡ l.initial.out ++ item_elements l.id (take l.item-index l.items)
