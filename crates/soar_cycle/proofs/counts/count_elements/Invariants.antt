use Rattle.std.proofs.Common.{◌≡◌, ◌≤◌, ◌+◌, ◌-◌}
use Rattle.soar_wm.specs.WorkingMemory.{IsLawful}
use Rattle.soar_cycle.proofs.CountLemmas.{count_to}
use Rattle.soar_cycle.proofs.counts.count_elements.Given as goal

abbrev pub invariant-tags : goal.invariant-tags
invariant-tags l = record {
  lawful : IsLawful l.memory;
  within : l.tag ≤ l.memory.last;
  few : l.count ≤ l.tag + 1;
  counted : l.count ≡ count_to l.tag l.memory.elements;
}

abbrev pub decreases-tags : goal.decreases-tags
decreases-tags l = l.memory.last - l.tag
