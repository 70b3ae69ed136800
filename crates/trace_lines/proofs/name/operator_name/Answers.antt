use Rattle.std.proofs.Common.{◌≡◌, ◌∙◌, List, sym, ap, subst}
use Rattle.std.specs.List.{All}
use Rattle.std.proofs.lemmas.List.Elements.{All-filter}
use Rattle.soar_sym.specs.Equality.{symbol_eq}
use Rattle.soar_wm.specs.declared.element.Element.{Element}
use Rattle.soar_wm.specs.WorkingMemory.{elements_of}
use Rattle.defs_soar.specs.Decision.{first_symbol, names_of_operator}
use Rattle.trace_lines.specs.Names.{IsValueKnown}
use Rattle.trace_lines.proofs.NameLemmas.{names_among}
use Rattle.trace_lines.proofs.name.operator_name.Goals as goal

pub least_name-requires : goal.least_name-requires
least_name-requires c =
    let are : c.as_slice.result.now ≡ elements_of c.args.operator c.args.memory.now.elements = c.as_slice.ensures ∙ c.in_ok-elements.ensures in
    subst (λ (elements : List Element). All (IsValueKnown c.args.table.now) elements) (sym are)
    (All-filter (λ e. symbol_eq e.id c.args.operator) (IsValueKnown c.args.table.now) c.args.memory.now.elements c.requires)

pub returns-clause-name : goal.returns-clause-name
returns-clause-name c =
    let are : c.as_slice.result.now ≡ elements_of c.args.operator c.args.memory.now.elements = c.as_slice.ensures ∙ c.in_ok-elements.ensures in
    c.least_name.ensures.name
    ∙ ap (λ (elements : List Element). first_symbol (names_of_operator c.args.table.now elements c.args.operator)) are
    ∙ ap first_symbol (names_among c.args.table.now c.args.operator c.args.memory.now.elements)
