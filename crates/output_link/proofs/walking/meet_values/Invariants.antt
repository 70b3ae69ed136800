use Rattle.std.proofs.Common.{◌≡◌, drop}
use Rattle.soar_sym.specs.declared.symbol.Sym.{Sym}
use Rattle.defs_soar.specs.Sorted.{has_symbol}
use Rattle.level_graph.specs.Marks.{has_mark}
use Rattle.output_link.specs.Walking.{with_values}
use Rattle.output_link.proofs.walking.meet_values.Given as goal

abbrev pub invariant-elements : goal.invariant-elements
invariant-elements l = ((s : Sym) → has_mark l.met s ≡ has_symbol l.reached s) × (with_values l.reached (drop l.element-index l.elements) ≡ with_values l.initial.reached l.elements)
