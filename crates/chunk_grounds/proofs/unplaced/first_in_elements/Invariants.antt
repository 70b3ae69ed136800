use Rattle.std.proofs.Common.{◌≡◌, drop, flat_map}
use Rattle.defs_soar.specs.Ungrounded.{first_without, symbols_of_element}
use Rattle.chunk_grounds.proofs.unplaced.first_in_elements.Given as goal

abbrev pub invariant-elements : goal.invariant-elements
invariant-elements l = first_without l.places (flat_map symbols_of_element (drop l.element-index l.elements)) ≡ first_without l.places (flat_map symbols_of_element l.elements)
