use Rattle.std.proofs.Common.{◌≡◌, ◌++◌, [], drop, map}
use Rattle.learned_firings.specs.Deciding.{deciding}
use Rattle.learned_firings.proofs.deciding.deciding_tags.Given as goal

abbrev pub invariant-elements : goal.invariant-elements
invariant-elements l = l.tags ++ map (λ e. e.tag) (deciding l.seen (drop l.element-index l.elements)) ≡ map (λ e. e.tag) (deciding [] l.elements)
