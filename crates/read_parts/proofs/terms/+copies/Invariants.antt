use Rattle.std.proofs.Common.{◌≡◌, take}
use Rattle.read_parts.proofs.terms.+copies.Given as goal

abbrev pub invariant-copy_values-values : goal.invariant-copy_values-values
invariant-copy_values-values l = l.out ≡ take l.value-index l.values
