use Rattle.std.proofs.Common.{◌≡◌, map, take}
use Rattle.defs_soar.specs.Verdicts.{item_for}
use Rattle.soar_decide.proofs.items.items_for.Given as goal

abbrev pub invariant-scored : goal.invariant-scored
invariant-scored l = l.items ≡ map (item_for l.view.memory.now.elements l.goal) (take l.one-index l.scored)
