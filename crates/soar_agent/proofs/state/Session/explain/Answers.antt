use Rattle.std.proofs.Common.{◌≡◌, ◌∙◌, List, Option, Some, None, map, ap, subst}
use Rattle.defs_match.specs.Rules.{RuleOf, rule_seen}
use Rattle.defs_match.specs.declared.rule.Rule.{Rule}
use Rattle.defs_run.specs.Carrying.{rule_named}
use Rattle.defs_run.specs.Inputs.{Carried, refuses}
use Rattle.defs_run.specs.Orders.{no_production}
use Rattle.defs_run.specs.Sessions.{Session}
use Rattle.soar_agent.specs.Carries.{Responds, response_by}
use Rattle.soar_agent.specs.Explaining.{explains}
use Rattle.soar_agent.specs.States.{session_of}
use Rattle.soar_agent.proofs.state.Session.explain.Goals as goal

pub returns-in-Some-clause-reply : goal.returns-in-Some-clause-reply
returns-in-Some-clause-reply g c = λ history remembers.
    let s : Session = session_of c.args.self.now history in
    let found : Some (rule_seen c.in-Some.rule.now) ≡ rule_named (map rule_seen c.args.self.now.agent.parts.rules) c.args.name =
    c.in-Some.ensures ∙ ap (λ (rs : List Rule). rule_named (map rule_seen rs) c.args.name) c.rules.ensures in
    subst (λ (o : Option RuleOf). Responds c.args.self.now.agent.parts.settings.watch c.args.self.now.agent.mid_line
    (response_by c.args.origin.now.source.now c.args.origin.now.line s (elim o as (λ _. Carried) [ None ↦ refuses (no_production s.agent.names.words c.args.name) | Some r ↦ explains c.args.name r.number s ]))
    c.explain_rule.new.self c.args.out.now c.explain_rule.new.out c.explain_rule.result)
    found (c.explain_rule.ensures.reply history remembers)

pub returns-in-None-clause-reply : goal.returns-in-None-clause-reply
returns-in-None-clause-reply g c = λ history remembers.
    let s : Session = session_of c.args.self.now history in
    let missing : None ≡ rule_named (map rule_seen c.args.self.now.agent.parts.rules) c.args.name =
    c.in-None.ensures ∙ ap (λ (rs : List Rule). rule_named (map rule_seen rs) c.args.name) c.rules.ensures in
    subst (λ (o : Option RuleOf). Responds c.args.self.now.agent.parts.settings.watch c.args.self.now.agent.mid_line
    (response_by c.args.origin.now.source.now c.args.origin.now.line s (elim o as (λ _. Carried) [ None ↦ refuses (no_production s.agent.names.words c.args.name) | Some r ↦ explains c.args.name r.number s ]))
    c.refuse_with.new.self c.args.out.now c.refuse_with.new.out c.refuse_with.result)
    missing (c.refuse_with.ensures.reply history remembers)
