use Rattle.std.proofs.Common.{◌≡◌, ◌∙◌, List, ℕ, ap}
use Rattle.soar_sym.specs.Words.{Texts}
use Rattle.soar_wm.specs.declared.element.Element.{Element}
use Rattle.soar_wm.specs.WorkingMemory.{WorkingMemory, elements_of}
use Rattle.defs_run.specs.Listing.{element_lines}
use Rattle.soar_cycle.specs.Parts.{Parts}
use Rattle.soar_agent.proofs.ReplyLemmas.{says_lines}
use Rattle.soar_agent.proofs.state.Session.list_symbol.Goals as goal

pub returns-clause-reply : goal.returns-clause-reply
returns-clause-reply g c = λ history remembers.
    let a : Parts = c.args.self.now.agent.parts in
    let lines : Texts → List Element → List (List ℕ) = λ words elements. element_lines words (elements_of c.args.id elements) in
    let same : lines c.symbols.result.now c.memory.result.now.elements ≡ lines a.table a.memory.elements =
    ap (λ (words : Texts). lines words c.memory.result.now.elements) c.symbols.ensures ∙ ap (λ (m : WorkingMemory). lines a.table m.elements) c.memory.ensures in
    says_lines c.args.self.now c.set_mid_line.new.self (lines c.symbols.result.now c.memory.result.now.elements) (lines a.table a.memory.elements) c.mid_line-mid_line.result c.say_elements_of.new.mid_line
    history c.args.out.now c.say_elements_of.new.out remembers c.requires c.set_mid_line.ensures same c.mid_line-mid_line.ensures c.in_ok-say_elements_of.ensures
