use Rattle.std.proofs.Common.{◌≡◌, ◌++◌, map, take}
use Rattle.defs_soar.specs.Architecture.{non_numeric_word}
use Rattle.defs_soar.specs.Goals.{plain_triple, without_number}
use Rattle.soar_settle.proofs.goal_elements.add_without_number.Given as goal

abbrev pub invariant-items : goal.invariant-items
invariant-items l = l.out ≡ l.initial.out ++ map (λ item. plain_triple l.id non_numeric_word item.value) (without_number (take l.item-index l.items))
