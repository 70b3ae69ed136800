use Rattle.std.proofs.Common.{◌≡◌, IfSome, drop}
use Rattle.soar_sym.specs.Words.{IsKnown}
use Rattle.defs_soar.specs.Decision.{first_symbol, names_of_operator}
use Rattle.trace_lines.proofs.name.least_name.Given as goal

abbrev pub invariant-elements : goal.invariant-elements
invariant-elements l = record {
  least : l.name ≡ first_symbol (names_of_operator l.table (drop l.at l.elements) l.operator);
  known : IfSome l.name (IsKnown l.table);
}
