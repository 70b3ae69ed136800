use Rattle.std.proofs.Common.{◌≡◌, ℕ, ◌-◌, length, slice_index}
use Rattle.soar_rule.proofs.numbering.grow.Given as goal

abbrev pub invariant-places : goal.invariant-places
invariant-places l = (variable : ℕ) → slice_index l.places variable ≡ slice_index l.initial.places variable

abbrev pub decreases-places : goal.decreases-places
decreases-places l = l.count - length l.places
