use Rattle.defs_run.specs.Inputs.{Spelled, spelled}
use Rattle.command_orders.specs.Asked.{operand_seen}
use Rattle.soar_agent.specs.States.{session_of}
use Rattle.soar_agent.proofs.SpellingLemmas.{queues_none, queues_spelled}
use Rattle.soar_agent.proofs.state.Session.queue_spelled.Goals as goal

pub returns-in-Ok-clause-reply : goal.returns-in-Ok-clause-reply
returns-in-Ok-clause-reply g c = λ said history remembers.
    queues_spelled c.args.self.now c.spell.new.self c.put_queued.new.self c.args.adds (operand_seen c.args.addition.id) (operand_seen c.args.addition.attr) (operand_seen c.args.addition.value) c.in-Ok.triple history said said c.put_queued.result
    c.in-Ok.ensures.mid_line (c.in-Ok.ensures.triple history remembers) (c.put_queued.ensures.reply said history (c.in-Ok.ensures.triple history remembers).3)

pub returns-in-Err-clause-reply : goal.returns-in-Err-clause-reply
returns-in-Err-clause-reply g c = λ said history remembers.
    let t : Spelled = spelled (session_of c.args.self.now history) (operand_seen c.args.addition.id) (operand_seen c.args.addition.attr) (operand_seen c.args.addition.value) in
    queues_none c.args.self.now c.spell.new.self c.args.adds t history said c.in-Err.stop c.in-Err.ensures.mid_line (c.in-Err.ensures.triple history remembers)
