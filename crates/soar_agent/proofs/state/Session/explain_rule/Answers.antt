use Rattle.std.proofs.Common.{Option, Ok, false, map, sym, ap, subst}
use Rattle.soar_sym.specs.Words.{Texts}
use Rattle.soar_rule.specs.Symbols.{AreKnown}
use Rattle.chain_texts.specs.Shown.{shown_symbols}
use Rattle.defs_soar.specs.History.{ChainOf, chain_seen}
use Rattle.defs_soar.specs.Texts.{chain_lines}
use Rattle.defs_run.specs.Carrying.{explained}
use Rattle.defs_run.specs.Sessions.{Session}
use Rattle.soar_cycle.specs.Hands.{learned_rule_seen}
use Rattle.soar_agent.specs.Carries.{Responds, response_by}
use Rattle.soar_agent.specs.States.{session_of}
use Rattle.soar_agent.specs.declared.outcome.Outcome.TheVariants.{Done}
use Rattle.soar_agent.proofs.ExplainLemmas.{chain_known}
use Rattle.soar_agent.proofs.ReplyLemmas.{says_lines, with_kept}
use Rattle.soar_agent.proofs.state.Session.explain_rule.Goals as goal

pub list_chain-requires-clause-chain : goal.list_chain-requires-clause-chain
list_chain-requires-clause-chain g c =
    let parts = c.args.self.now.agent.parts in
    subst (λ (words : Texts). AreKnown words (shown_symbols (chain_seen c.in-Some.chain.now))) (sym c.symbols.ensures)
    (chain_known parts.table (map learned_rule_seen parts.chains) c.args.number (chain_seen c.in-Some.chain.now) c.requires.ready.1.chains_known (sym c.in-Some.ensures))

pub returns-in_ok-list_chain-in-Some-clause-reply : goal.returns-in_ok-list_chain-in-Some-clause-reply
returns-in_ok-list_chain-in-Some-clause-reply g c = λ history remembers.
    let s : Session = session_of c.args.self.now history in
    let chain : ChainOf = chain_seen c.in-Some.chain.now in
    let table : Texts = c.args.self.now.agent.parts.table in
    subst (λ (o : Option ChainOf). Responds c.args.self.now.agent.parts.settings.watch c.args.self.now.agent.mid_line
    (response_by c.args.origin.now.source.now c.args.origin.now.line s (explained s c.args.name o)) (with_kept c.set_mid_line.new.self c.args.self.now) c.args.out.now c.list_chain.new.out (Ok Done))
    c.in-Some.ensures
    (says_lines c.args.self.now c.set_mid_line.new.self (chain_lines c.symbols.result.now c.args.name chain) (chain_lines table c.args.name chain) c.mid_line-mid_line.result c.list_chain.new.mid_line history
    c.args.out.now c.list_chain.new.out remembers c.requires.ready c.set_mid_line.ensures (ap (λ (words : Texts). chain_lines words c.args.name chain) c.symbols.ensures) c.mid_line-mid_line.ensures
    c.in_ok-list_chain-in-Some.ensures.ok)

pub returns-in-None-clause-reply : goal.returns-in-None-clause-reply
returns-in-None-clause-reply g c = λ history remembers.
    let s : Session = session_of c.args.self.now history in
    subst (λ (o : Option ChainOf). Responds c.args.self.now.agent.parts.settings.watch c.args.self.now.agent.mid_line
    (response_by c.args.origin.now.source.now c.args.origin.now.line s (explained s c.args.name o)) c.refuse_with.new.self c.args.out.now c.refuse_with.new.out c.refuse_with.result)
    c.in-None.ensures (c.refuse_with.ensures.reply history remembers)
