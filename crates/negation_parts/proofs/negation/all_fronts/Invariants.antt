use Rattle.std.proofs.Common.{◌≡◌, take}
use Rattle.std.specs.Ordering.{nat_cmp}
use Rattle.std.specs.Cmp.Lexicographic.{slice_cmp}
use Rattle.std.specs.BTreeMap.{get}
use Rattle.negation_parts.specs.Negations.{found_rows}
use Rattle.negation_parts.proofs.negation.all_fronts.Given as goal

abbrev pub invariant-gone : goal.invariant-gone
invariant-gone l = l.out.items ≡ found_rows (get (slice_cmp nat_cmp) l.rows) l.n (take l.tags-index l.gone)
