use Rattle.std.proofs.Common.{◌≡◌, []}
use Rattle.rete_alpha.specs.Numbers.{with_numbers}
use Rattle.rete_alpha.specs.Taking.{keys_taken}
use Rattle.rete_alpha.proofs.elements.keys_taken.Given as goal

abbrev pub invariant-elements : goal.invariant-elements
invariant-elements l = with_numbers (keys_taken l.p l.tag-iterator) l.tags ≡ with_numbers (keys_taken l.p l.by_tag.entries) []
