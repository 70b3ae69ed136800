use Rattle.std.proofs.Common.{◌≡◌, ◌++◌, take}
use Rattle.defs_match.specs.Rows.{extend}
use Rattle.join_parts.proofs.join.add_by_all.Given as goal

abbrev pub invariant-elements : goal.invariant-elements
invariant-elements l = l.out.items ≡ l.initial.out.items ++ extend l.p (take l.element-index l.elements) l.row
