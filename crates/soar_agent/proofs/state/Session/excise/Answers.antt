use Rattle.std.proofs.Common.{◌≡◌, ◌∙◌, Bool, List, true, false, is_some, map, sym, ap, subst}
use Rattle.std.specs.List.{list_any}
use Rattle.std.specs.Prelude.{if◌then◌else◌}
use Rattle.defs_match.specs.Rules.{RuleOf, rule_seen}
use Rattle.defs_match.specs.declared.rule.Rule.{Rule}
use Rattle.defs_run.specs.Carrying.{excised, is_named, rule_named}
use Rattle.defs_run.specs.Inputs.{Carried, does, refuses}
use Rattle.defs_run.specs.Orders.{no_production}
use Rattle.defs_run.specs.Sessions.{Session}
use Rattle.soar_agent.specs.Carries.{Responds, response_by}
use Rattle.soar_agent.specs.States.{session_of}
use Rattle.soar_agent.proofs.NamedLemmas.{any_named, if_there}
use Rattle.soar_agent.proofs.state.Session.excise.Goals as goal

pub returns-then-has_name-clause-reply : goal.returns-then-has_name-clause-reply
returns-then-has_name-clause-reply g c = λ history remembers.
    let s : Session = session_of c.args.self.now history in
    let rules : List RuleOf = map rule_seen c.args.self.now.agent.parts.rules in
    let gone : Carried = does (excised c.args.name s) in
    let missing : Carried = refuses (no_production s.agent.names.words c.args.name) in
    let loaded : true ≡ is_some (rule_named rules c.args.name) =
    sym c.if-has_name.true ∙ c.has_name.ensures ∙ ap (λ (rs : List Rule). list_any (is_named c.args.name) (map rule_seen rs)) c.rules.ensures ∙ sym (any_named c.args.name rules) in
    subst (λ (carried : Carried). Responds c.args.self.now.agent.parts.settings.watch c.args.self.now.agent.mid_line (response_by c.args.origin.now.source.now c.args.origin.now.line s carried)
    c.take_away.new.self c.args.out.now c.args.out.now c.take_away.result)
    (sym (if_there (rule_named rules c.args.name) gone missing))
    (subst (λ (b : Bool). Responds c.args.self.now.agent.parts.settings.watch c.args.self.now.agent.mid_line
    (response_by c.args.origin.now.source.now c.args.origin.now.line s (if b then gone else missing)) c.take_away.new.self c.args.out.now c.args.out.now c.take_away.result)
    loaded (c.take_away.ensures.reply c.args.out.now history remembers))

pub returns-else-has_name-clause-reply : goal.returns-else-has_name-clause-reply
returns-else-has_name-clause-reply g c = λ history remembers.
    let s : Session = session_of c.args.self.now history in
    let rules : List RuleOf = map rule_seen c.args.self.now.agent.parts.rules in
    let gone : Carried = does (excised c.args.name s) in
    let missing : Carried = refuses (no_production s.agent.names.words c.args.name) in
    let loaded : false ≡ is_some (rule_named rules c.args.name) =
    sym c.if-has_name.false ∙ c.has_name.ensures ∙ ap (λ (rs : List Rule). list_any (is_named c.args.name) (map rule_seen rs)) c.rules.ensures ∙ sym (any_named c.args.name rules) in
    subst (λ (carried : Carried). Responds c.args.self.now.agent.parts.settings.watch c.args.self.now.agent.mid_line (response_by c.args.origin.now.source.now c.args.origin.now.line s carried)
    c.refuse_with.new.self c.args.out.now c.refuse_with.new.out c.refuse_with.result)
    (sym (if_there (rule_named rules c.args.name) gone missing))
    (subst (λ (b : Bool). Responds c.args.self.now.agent.parts.settings.watch c.args.self.now.agent.mid_line
    (response_by c.args.origin.now.source.now c.args.origin.now.line s (if b then gone else missing)) c.refuse_with.new.self c.args.out.now c.refuse_with.new.out c.refuse_with.result)
    loaded (c.refuse_with.ensures.reply history remembers))
