use Rattle.std.proofs.Common.{◌≡◌, ◌∙◌, ap}
use Rattle.soar_sym.specs.Words.{Texts}
use Rattle.soar_wm.specs.WorkingMemory.{WorkingMemory}
use Rattle.defs_run.specs.Listing.{element_lines}
use Rattle.soar_cycle.specs.Parts.{Parts}
use Rattle.soar_agent.proofs.ReplyLemmas.{says_lines}
use Rattle.soar_agent.proofs.state.Session.list_memory.Goals as goal

pub returns-clause-reply : goal.returns-clause-reply
returns-clause-reply g c = λ history remembers.
    let a : Parts = c.args.self.now.agent.parts in
    let same : element_lines c.symbols.result.now c.memory.result.now.elements ≡ element_lines a.table a.memory.elements =
    ap (λ (words : Texts). element_lines words c.memory.result.now.elements) c.symbols.ensures ∙ ap (λ (m : WorkingMemory). element_lines a.table m.elements) c.memory.ensures in
    says_lines c.args.self.now c.set_mid_line.new.self (element_lines c.symbols.result.now c.memory.result.now.elements) (element_lines a.table a.memory.elements) c.mid_line-mid_line.result c.list_elements.new.mid_line
    history c.args.out.now c.list_elements.new.out remembers c.requires c.set_mid_line.ensures same c.mid_line-mid_line.ensures c.in_ok-list_elements.ensures.ok
