use Rattle.std.proofs.Common.{◌≡◌, ◌∙◌, List, Option, Some, None, Ok, false, map, sym, ap, subst}
use Rattle.soar_sym.specs.Words.{IsKnown, Texts}
use Rattle.defs_match.specs.Conflict.{conflict}
use Rattle.defs_match.specs.Rules.{RuleOf, rule_seen}
use Rattle.defs_match.specs.declared.rule.Rule.{Rule}
use Rattle.defs_run.specs.Carrying.{rule_named}
use Rattle.defs_run.specs.Inputs.{Carried, does, refuses}
use Rattle.defs_run.specs.Listing.{conflict_lines_of}
use Rattle.defs_run.specs.Orders.{no_production}
use Rattle.defs_run.specs.Sessions.{Session, says}
use Rattle.match_changes.specs.Told.{of_rule}
use Rattle.list_parts.specs.Matches.{HasMatches, matches_of, rule_match_lines}
use Rattle.list_parts.proofs.MatchLemmas.{twice}
use Rattle.session_parts.proofs.RuleLemmas.{named_known}
use Rattle.soar_cycle.specs.Parts.{Parts}
use Rattle.soar_cycle.specs.Agents.{AgentSeen}
use Rattle.soar_agent.specs.Carries.{Responds, response_by}
use Rattle.soar_agent.specs.States.{session_of}
use Rattle.soar_agent.specs.declared.outcome.Outcome.TheVariants.{Done}
use Rattle.soar_agent.proofs.NamedLemmas.{alone_named}
use Rattle.soar_agent.proofs.ReplyLemmas.{refused_same, says_lines, with_kept}
use Rattle.soar_agent.proofs.state.Session.list_matches_named.Goals as goal

pub list_matches_of-requires : goal.list_matches_of-requires
list_matches_of-requires g c =
    let a : AgentSeen = c.args.self.now.agent in
    let rules : List RuleOf = map rule_seen a.parts.rules in
    let parts : c.instances_of.new.self.parts ≡ a.parts = c.in-Ok.ensures.parts in
    let found : rule_named rules c.args.name ≡ Some (rule_seen c.in-Some.rule.now) =
    sym (c.in-Some.ensures ∙ ap (λ (rs : List Rule). rule_named (map rule_seen rs) c.args.name) (c.rules.ensures ∙ ap (λ (p : Parts). p.rules) parts)) in
    subst (λ (words : Texts). IsKnown words c.in-Some.rule.now.production.name) (sym (c.symbols.ensures ∙ ap (λ (p : Parts). p.table) parts))
    (named_known a.parts.table rules c.args.name (rule_seen c.in-Some.rule.now) c.requires.ready.1.rules_known found).0

pub returns-in-Some-clause-reply : goal.returns-in-Some-clause-reply
returns-in-Some-clause-reply g c = λ history remembers.
    let a : AgentSeen = c.args.self.now.agent in
    let s : Session = session_of c.args.self.now history in
    let rule : RuleOf = rule_seen c.in-Some.rule.now in
    let rules : List RuleOf = map rule_seen a.parts.rules in
    let parts : c.instances_of.new.self.parts ≡ a.parts = c.in-Ok.ensures.parts in
    let words_are : c.symbols.result.now ≡ a.parts.table = c.symbols.ensures ∙ ap (λ (p : Parts). p.table) parts in
    let found : Some rule ≡ rule_named rules c.args.name =
    c.in-Some.ensures ∙ ap (λ (rs : List Rule). rule_named (map rule_seen rs) c.args.name) (c.rules.ensures ∙ ap (λ (p : Parts). p.rules) parts) in
    let all = conflict rules a.parts.memory.elements in
    let has : HasMatches s.agent c.symbols.result.now rule c.as_slice.result.now = record {
      words_are = sym words_are;
      alone = alone_named rules c.args.name rule c.requires.ready.1.numbered (sym found);
      all =
          ap (matches_of rule.number) (c.as_slice.ensures ∙ c.in-Ok.ensures.found c.requires.ready.0 ∙ ap (λ n. of_rule n all) (c.number_named-number.ensures rule (sym found)))
          ∙ twice rule.number all;
    } in
    let is : c.set_mid_line.new.self ≡ record a { mid_line = c.list_matches_of.new.mid_line } =
    c.set_mid_line.ensures ∙ (λ k. record { parts = parts k; mid_line = c.list_matches_of.new.mid_line; standing = c.in-Ok.ensures.standing k }) in
    subst (λ (o : Option RuleOf). Responds a.parts.settings.watch a.mid_line
    (response_by c.args.origin.now.source.now c.args.origin.now.line s (elim o as (λ _. Carried) [ None ↦ refuses (no_production s.agent.names.words c.args.name) | Some r ↦ does (says s (conflict_lines_of s.agent r)) ]))
    (with_kept c.set_mid_line.new.self c.args.self.now) c.args.out.now c.list_matches_of.new.out (Ok Done))
    found
    (says_lines c.args.self.now c.set_mid_line.new.self (rule_match_lines c.symbols.result.now rule c.as_slice.result.now) (conflict_lines_of s.agent rule) c.mid_line-mid_line.result
    c.list_matches_of.new.mid_line history c.args.out.now c.list_matches_of.new.out remembers c.requires.ready is (c.list_matches_of.ensures.of_agent s.agent has)
    (c.mid_line-mid_line.ensures ∙ c.in-Ok.ensures.mid_line) c.in_ok-list_matches_of-in-Some.ensures.ok)

pub returns-clause-reply : goal.returns-clause-reply
returns-clause-reply g c = λ history remembers.
    let a : AgentSeen = c.args.self.now.agent in
    let s : Session = session_of c.args.self.now history in
    let parts : c.instances_of.new.self.parts ≡ a.parts = c.in-Ok.ensures.parts in
    let missing : None ≡ rule_named (map rule_seen a.parts.rules) c.args.name =
    c.in-None.ensures ∙ ap (λ (rs : List Rule). rule_named (map rule_seen rs) c.args.name) (c.rules.ensures ∙ ap (λ (p : Parts). p.rules) parts) in
    let same : a ≡ c.instances_of.new.self = λ k. record { parts = sym parts k; mid_line = sym c.in-Ok.ensures.mid_line k; standing = sym c.in-Ok.ensures.standing k } in
    subst (λ (o : Option RuleOf). Responds a.parts.settings.watch a.mid_line
    (response_by c.args.origin.now.source.now c.args.origin.now.line s (elim o as (λ _. Carried) [ None ↦ refuses (no_production s.agent.names.words c.args.name) | Some r ↦ does (says s (conflict_lines_of s.agent r)) ]))
    c.refuse_with.new.self c.args.out.now c.refuse_with.new.out c.refuse_with.result)
    missing
    (refused_same c.args.self.now c.refuse_with.new.self c.instances_of.new.self c.args.name c.args.origin.now.source.now c.args.origin.now.line history c.args.out.now c.refuse_with.new.out c.refuse_with.result same remembers
    (λ given. c.refuse_with.ensures.reply history given))
