use Rattle.std.proofs.Common.{◌≡◌, ◌++◌, map, take}
use Rattle.defs_soar.specs.Explanation.{as_item_step}
use Rattle.defs_soar.specs.History.{step_seen}
use Rattle.chunk_back.specs.Namings.{as_naming}
use Rattle.chunk_back.proofs.steps.add_items.Given as goal

abbrev pub invariant-items : goal.invariant-items
invariant-items l = map step_seen l.steps ≡ map step_seen l.initial.steps ++ map as_item_step (map as_naming (take l.item-index l.items))
