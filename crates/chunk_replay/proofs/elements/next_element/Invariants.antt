use Rattle.std.proofs.Common.{◌≡◌, length}
use Rattle.chunk_replay.specs.LookedUp.{of_tags}
use Rattle.chunk_replay.proofs.elements.next_element.Given as goal

abbrev pub invariant-tags : goal.invariant-tags
invariant-tags l = of_tags l.used l.rest ≡ of_tags l.used l.tags

abbrev pub decreases-tags : goal.decreases-tags
decreases-tags l = length l.rest
