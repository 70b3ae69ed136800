use Rattle.std.proofs.Common.{◌∙◌, ◌-◌, ap, sym, arith, get_or, Option, Some}
use Rattle.soar_sym.specs.declared.symbol.Sym.{Sym}
use Rattle.trace_lines.specs.Names.{lesser}
use Rattle.trace_lines.proofs.NameLemmas.{name_in_front, no_element}
use Rattle.trace_lines.proofs.name.least_name.Goals as goal

pub elements-preserved-then-is_name_of : goal.elements-preserved-then-is_name_of
elements-preserved-then-is_name_of c = record {
  least = ap Some c.lesser.ensures.lesser
      ∙ ap (λ (least : Option Sym). Some (lesser c.args.table.now least (get_or c.args.elements.now (c.elements.at - 1) no_element).value)) c.elements.invariant.least
      ∙ name_in_front c.args.table.now c.args.operator c.args.elements.now (c.elements.at - 1) c.elements.at (omega arith) (omega arith) (sym c.is_name_of.ensures ∙ c.if-is_name_of.true);
  known = c.lesser.ensures.known;
}
