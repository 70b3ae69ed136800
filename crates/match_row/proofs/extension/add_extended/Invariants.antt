use Rattle.std.proofs.Common.{◌≡◌, ◌++◌, take}
use Rattle.defs_match.specs.Rows.{extend}
use Rattle.match_row.proofs.extension.add_extended.Given as goal

abbrev pub invariant-elements : goal.invariant-elements
invariant-elements l = record {
  bindings : l.bindings.items ≡ l.row.bindings;
  rows : l.out.items ≡ l.initial.out.items ++ extend l.pattern (take l.element-index l.elements) l.row;
}
