use Rattle.std.proofs.Common.{◌≡◌, drop, map}
use Rattle.soar_wm.specs.WorkingMemory.{element_of}
use Rattle.carried_tests.proofs.firings.element_of.Given as goal

abbrev pub invariant-used : goal.invariant-used
invariant-used l = element_of l.tag (map (λ u. u.element) (drop l.one-index l.used)) ≡ element_of l.tag (map (λ u. u.element) l.used)
