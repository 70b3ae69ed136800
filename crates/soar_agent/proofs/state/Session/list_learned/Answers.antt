use Rattle.std.proofs.Common.{◌≡◌, ◌∙◌, List, ℕ, ap, map}
use Rattle.soar_sym.specs.Words.{Texts}
use Rattle.defs_match.specs.Rules.{rule_seen}
use Rattle.defs_match.specs.declared.rule.Rule.{Rule}
use Rattle.list_parts.specs.Lists.{chunk_lines}
use Rattle.soar_cycle.specs.Parts.{Parts}
use Rattle.soar_agent.proofs.ReplyLemmas.{says_lines}
use Rattle.soar_agent.proofs.state.Session.list_learned.Goals as goal

pub returns-clause-reply : goal.returns-clause-reply
returns-clause-reply g c = λ history remembers.
    let a : Parts = c.args.self.now.agent.parts in
    let lines : Texts → List Rule → List (List ℕ) = λ words rules. chunk_lines words (map rule_seen rules) in
    let same : lines c.symbols.result.now c.rules.result.now ≡ lines a.table a.rules =
    ap (λ (words : Texts). lines words c.rules.result.now) c.symbols.ensures ∙ ap (lines a.table) c.rules.ensures in
    says_lines c.args.self.now c.set_mid_line.new.self (lines c.symbols.result.now c.rules.result.now) (lines a.table a.rules) c.mid_line-mid_line.result c.list_chunks.new.mid_line
    history c.args.out.now c.list_chunks.new.out remembers c.requires c.set_mid_line.ensures same c.mid_line-mid_line.ensures c.in_ok-list_chunks.ensures.ok
