use Rattle.std.proofs.Common.{◌≡◌, ◌∙◌, List, ap, map}
use Rattle.defs_match.specs.Conflict.{conflict}
use Rattle.defs_match.specs.Rules.{RuleOf, rule_seen}
use Rattle.defs_match.specs.declared.instance.Instance.{Instance}
use Rattle.soar_cycle.specs.Parts.{Parts}
use Rattle.soar_cycle.specs.Agents.{AgentSeen}
use Rattle.session_parts.specs.Saying.{match_lines}
use Rattle.soar_agent.proofs.ReplyLemmas.{says_lines}
use Rattle.soar_agent.proofs.state.Session.list_matches.Goals as goal

pub returns-clause-reply : goal.returns-clause-reply
returns-clause-reply g c = λ history remembers.
    let a : AgentSeen = c.args.self.now.agent in
    let parts : c.conflict.new.self.parts ≡ a.parts = c.in-Ok.ensures.parts in
    let rules : List RuleOf = map rule_seen a.parts.rules in
    let is : c.set_mid_line.new.self ≡ record a { mid_line = c.say_matches.new.mid_line } =
    c.set_mid_line.ensures ∙ (λ k. record { parts = parts k; mid_line = c.say_matches.new.mid_line; standing = c.in-Ok.ensures.standing k }) in
    let words_are : c.symbols.result.now ≡ a.parts.table = c.symbols.ensures ∙ ap (λ (p : Parts). p.table) parts in
    let rules_are : map rule_seen c.rules.result.now ≡ rules = ap (map rule_seen) (c.rules.ensures ∙ ap (λ (p : Parts). p.rules) parts) in
    let found : List Instance = conflict rules a.parts.memory.elements in
    let same : match_lines c.symbols.result.now (map rule_seen c.rules.result.now) c.in-Ok.instances ≡ match_lines a.parts.table rules found =
    λ k. match_lines (words_are k) (rules_are k) (c.in-Ok.ensures.conflict c.requires.0 k) in
    says_lines c.args.self.now c.set_mid_line.new.self (match_lines c.symbols.result.now (map rule_seen c.rules.result.now) c.in-Ok.instances) (match_lines a.parts.table rules found)
    c.mid_line-mid_line.result c.say_matches.new.mid_line history c.args.out.now c.say_matches.new.out remembers c.requires is same (c.mid_line-mid_line.ensures ∙ c.in-Ok.ensures.mid_line)
    c.in_ok-say_matches.ensures
