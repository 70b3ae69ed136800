use Rattle.std.proofs.Common.{◌≡◌, ◌∙◌, List, Option, Some, None, Ok, false, map, sym, ap, subst}
use Rattle.soar_sym.specs.Words.{Texts}
use Rattle.soar_rule.specs.Productions.{production_seen}
use Rattle.soar_rule.specs.declared.production.Production.{Production}
use Rattle.soar_rule.specs.Symbols.{AreKnown, symbols_of}
use Rattle.defs_match.specs.Rules.{RuleOf, rule_seen}
use Rattle.defs_match.specs.declared.rule.Rule.{Rule}
use Rattle.defs_read.specs.Printing.{production_text}
use Rattle.defs_run.specs.Carrying.{rule_named}
use Rattle.defs_run.specs.Inputs.{Carried, does, refuses}
use Rattle.defs_run.specs.Listing.{production_lines}
use Rattle.defs_run.specs.Orders.{no_production}
use Rattle.defs_run.specs.Sessions.{Session, says}
use Rattle.session_parts.proofs.RuleLemmas.{named_known}
use Rattle.soar_agent.specs.Carries.{Responds, response_by}
use Rattle.soar_agent.specs.States.{session_of}
use Rattle.soar_agent.specs.declared.outcome.Outcome.TheVariants.{Done}
use Rattle.soar_agent.proofs.ReplyLemmas.{says_lines, with_kept}
use Rattle.soar_agent.proofs.state.Session.show_rule.Goals as goal

pub say_production-requires : goal.say_production-requires
say_production-requires g c =
    let rules : List RuleOf = map rule_seen c.args.self.now.agent.parts.rules in
    let found : rule_named rules c.args.name ≡ Some (rule_seen c.in-Some.rule.now) =
    sym (c.in-Some.ensures ∙ ap (λ (rs : List Rule). rule_named (map rule_seen rs) c.args.name) c.rules.ensures) in
    subst (λ (p : Production). AreKnown c.symbols.result.now (symbols_of (production_seen p))) (sym c.deref.ensures)
    (subst (λ (words : Texts). AreKnown words (symbols_of (production_seen c.in-Some.rule.now.production))) (sym c.symbols.ensures)
    (named_known c.args.self.now.agent.parts.table rules c.args.name (rule_seen c.in-Some.rule.now) c.requires.ready.1.rules_known found))

pub returns-in_ok-say_production-in-Some-clause-reply : goal.returns-in_ok-say_production-in-Some-clause-reply
returns-in_ok-say_production-in-Some-clause-reply g c = λ history remembers.
    let s : Session = session_of c.args.self.now history in
    let rule : RuleOf = rule_seen c.in-Some.rule.now in
    let found : Some rule ≡ rule_named (map rule_seen c.args.self.now.agent.parts.rules) c.args.name =
    c.in-Some.ensures ∙ ap (λ (rs : List Rule). rule_named (map rule_seen rs) c.args.name) c.rules.ensures in
    subst (λ (o : Option RuleOf). Responds c.args.self.now.agent.parts.settings.watch c.args.self.now.agent.mid_line
    (response_by c.args.origin.now.source.now c.args.origin.now.line s (elim o as (λ _. Carried) [ None ↦ refuses (no_production s.agent.names.words c.args.name) | Some r ↦ does (says s (production_lines s.agent r)) ]))
    (with_kept c.set_mid_line.new.self c.args.self.now) c.args.out.now c.say_production.new.out (Ok Done))
    found
    (says_lines c.args.self.now c.set_mid_line.new.self (production_text c.symbols.result.now rule.production) (production_lines s.agent rule) c.mid_line-mid_line.result c.say_production.new.mid_line history
    c.args.out.now c.say_production.new.out remembers c.requires.ready c.set_mid_line.ensures (ap (λ (words : Texts). production_text words rule.production) c.symbols.ensures) c.mid_line-mid_line.ensures
    (rw c.deref.ensures at c.in_ok-say_production-in-Some.ensures))

pub returns-in-None-clause-reply : goal.returns-in-None-clause-reply
returns-in-None-clause-reply g c = λ history remembers.
    let s : Session = session_of c.args.self.now history in
    let missing : None ≡ rule_named (map rule_seen c.args.self.now.agent.parts.rules) c.args.name =
    c.in-None.ensures ∙ ap (λ (rs : List Rule). rule_named (map rule_seen rs) c.args.name) c.rules.ensures in
    subst (λ (o : Option RuleOf). Responds c.args.self.now.agent.parts.settings.watch c.args.self.now.agent.mid_line
    (response_by c.args.origin.now.source.now c.args.origin.now.line s (elim o as (λ _. Carried) [ None ↦ refuses (no_production s.agent.names.words c.args.name) | Some r ↦ does (says s (production_lines s.agent r)) ]))
    c.refuse_with.new.self c.args.out.now c.refuse_with.new.out c.refuse_with.result)
    missing (c.refuse_with.ensures.reply history remembers)
