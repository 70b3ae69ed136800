use Rattle.std.proofs.Common.{◌≡◌, drop}
use Rattle.output_link.specs.Walking.{with_elements}
use Rattle.output_link.proofs.walking.keep.Given as goal

abbrev pub invariant-elements : goal.invariant-elements
invariant-elements l = with_elements (drop l.element-index l.elements) l.kept.entries ≡ with_elements l.elements l.initial.kept.entries
