use Rattle.std.proofs.Common.{◌≡◌, drop}
use Rattle.soar_settle.specs.Tagging.{without_each}
use Rattle.soar_settle.proofs.tagging.replacing.remove_all.Given as goal

abbrev pub invariant-elements : goal.invariant-elements
invariant-elements l =
    record l.memory { elements = without_each l.memory.elements (drop l.element-index l.elements) } ≡ record l.initial.memory { elements = without_each l.initial.memory.elements l.elements }
