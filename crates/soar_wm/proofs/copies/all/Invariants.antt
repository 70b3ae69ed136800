use Rattle.std.proofs.Common.{◌≡◌, ◌++◌, filter_map}
use Rattle.slab.specs.Slab.{get}
use Rattle.soar_wm.proofs.copies.all.Given as goal

abbrev pub invariant-tags : goal.invariant-tags
invariant-tags l = l.out ++ filter_map (λ e. get l.cells e.1) l.key-iterator ≡ filter_map (λ e. get l.cells e.1) l.tags.entries
