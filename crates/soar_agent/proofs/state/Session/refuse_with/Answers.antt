use Rattle.std.proofs.Common.{◌∙◌, ◌++◌, Bool, List, ℕ, ap}
use Rattle.soar_sym.specs.Words.{Texts}
use Rattle.defs_run.specs.Orders.{refusal_text}
use Rattle.defs_soar.specs.Trace.{line_text}
use Rattle.session_parts.specs.Reasons.{refusal_by}
use Rattle.soar_cycle.specs.Agents.{AgentSeen}
use Rattle.soar_agent.proofs.ReplyLemmas.{refused_line}
use Rattle.soar_agent.proofs.state.Session.refuse_with.Goals as goal

pub returns-clause-reply : goal.returns-clause-reply
returns-clause-reply g c = λ history remembers.
    let a : AgentSeen = c.args.self.now.agent in
    let text : Texts → List ℕ = λ words. refusal_text (refusal_by words c.args.reason.now) c.args.origin.now.source.now c.args.origin.now.line in
    refused_line c.args.self.now c.set_mid_line.new.self (refusal_by a.parts.table c.args.reason.now) c.number.result c.args.origin.now.source.now c.args.origin.now.line history c.args.out.now c.say_refusal.new.out remembers
    c.requires.ready (c.set_mid_line.ensures ∙ ap (λ (mid : Bool). record a { mid_line = mid }) c.in_ok-say_refusal.ensures.1) (c.number.ensures a.parts.table)
    (c.in_ok-say_refusal.ensures.0
    ∙ (ap (λ (mid : Bool). c.args.out.now ++ line_text mid (text c.symbols.result.now)) c.mid_line-mid_line.ensures
    ∙ ap (λ (words : Texts). c.args.out.now ++ line_text a.mid_line (text words)) c.symbols.ensures))
