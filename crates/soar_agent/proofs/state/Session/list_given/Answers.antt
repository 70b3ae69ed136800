use Rattle.command_orders.specs.Asked.{operand_seen}
use Rattle.soar_agent.proofs.LabelLemmas.{lists_made, lists_none}
use Rattle.soar_agent.proofs.state.Session.list_given.Goals as goal

pub returns-in-Ok-clause-reply : goal.returns-in-Ok-clause-reply
returns-in-Ok-clause-reply g c = λ history remembers.
    lists_made c.args.self.now c.resolve.new.self c.list_symbol.new.self (operand_seen c.args.id) c.in-Ok.symbol history c.args.out.now c.list_symbol.new.out c.list_symbol.result
    c.in-Ok.ensures.mid_line (c.in-Ok.ensures.symbol history remembers) (c.list_symbol.ensures.reply history (c.in-Ok.ensures.symbol history remembers).3)

pub returns-in-Err-clause-reply : goal.returns-in-Err-clause-reply
returns-in-Err-clause-reply g c = λ history remembers.
    lists_none c.args.self.now c.resolve.new.self (operand_seen c.args.id) history c.args.out.now c.in-Err.stop c.in-Err.ensures.mid_line (c.in-Err.ensures.symbol history remembers)
