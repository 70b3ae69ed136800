use Rattle.std.proofs.Common.{◌≡◌, drop}
use Rattle.defs_match.specs.Rows.{extend}
use Rattle.match_row.proofs.extension.takes_any.Given as goal

abbrev pub invariant-elements : goal.invariant-elements
invariant-elements l = record {
  bindings : l.bindings.items ≡ l.row.bindings;
  rest : extend l.pattern (drop l.element-index l.elements) l.row ≡ extend l.pattern l.elements l.row;
}
