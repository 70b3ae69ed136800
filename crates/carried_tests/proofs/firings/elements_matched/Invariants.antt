use Rattle.std.proofs.Common.{◌≡◌, ◌++◌, drop, map}
use Rattle.defs_soar.specs.Uses.{elements_matched}
use Rattle.carried_tests.proofs.firings.elements_matched.Given as goal

abbrev pub invariant-tags : goal.invariant-tags
invariant-tags l = l.elements ++ elements_matched (map (λ u. u.element) l.used) (drop l.tag-index l.tags) ≡ elements_matched (map (λ u. u.element) l.used) l.tags
