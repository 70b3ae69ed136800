use Rattle.std.proofs.Common.{◌≡◌, ◌∙◌, List, OnOk, sym, subst}
use Rattle.soar_sym.specs.Equality.{symbol_eq}
use Rattle.soar_wm.specs.declared.element.Element.{Element}
use Rattle.soar_wm.specs.WorkingMemory.{elements_of}
use Rattle.defs_run.specs.Listing.{element_lines}
use Rattle.soar_settle.specs.Known.{AreElementsKnown}
use Rattle.session_parts.specs.Saying.{Says}
use Rattle.session_parts.proofs.SaidLemmas.{elements_filter}
use Rattle.session_parts.proofs.said.say_elements_of.Goals as goal

pub say_elements-requires : goal.say_elements-requires
say_elements-requires c =
    let are : c.as_slice.result.now ≡ elements_of c.args.id c.args.memory.now.elements = c.as_slice.ensures ∙ c.in_ok-elements.ensures in
    subst (AreElementsKnown c.args.table.now) (sym are)
    (elements_filter (λ e. symbol_eq e.id c.args.id) c.args.table.now c.args.memory.now.elements c.requires)

pub returns : goal.returns
returns c =
    let are : c.as_slice.result.now ≡ elements_of c.args.id c.args.memory.now.elements = c.as_slice.ensures ∙ c.in_ok-elements.ensures in
    subst (λ (elements : List Element). OnOk c.say_elements.result (Says (element_lines c.args.table.now elements) c.args.mid_line.now c.args.out.now c.say_elements.new.mid_line c.say_elements.new.out))
    are c.say_elements.ensures
