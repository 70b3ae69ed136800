use Rattle.std.proofs.Common.{◌≡◌, map, take}
use Rattle.learned_firings.proofs.firing.tags_of.Given as goal

abbrev pub invariant-elements : goal.invariant-elements
invariant-elements l = l.tags ≡ map (λ e. e.tag) (take l.element-index l.elements)
