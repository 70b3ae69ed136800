use Rattle.std.proofs.Common.{List, ℕ, OnOk, subst}
use Rattle.soar_edge.specs.Outside.{Appends, AppendsSome}
use Rattle.soar_agent.specs.Seen.{agent_of}
use Rattle.soar_run.specs.Cycles.{cycle_of}
use Rattle.soar_run.proofs.RanLemmas.{stopped_text, stopped_written}
use Rattle.soar_run.proofs.cycles.write_cycle.Goals as goal

pub returns-in-Err-Limit-clause-course : goal.returns-in-Err-Limit-clause-course
returns-in-Err-Limit-clause-course g c = λ history remembers.
    let it = stopped_text c.args.session.now.agent.parts.settings.watch c.args.session.now.agent.mid_line (cycle_of (agent_of c.args.session.now.agent.parts history)) c.cycle.new.self.agent _ c.cycle.new.text c.in-Err-Limit.field-0 c.in-Err-Limit.limit c.new-text.ensures
    c.in-Err-Limit.field-0-is (c.in-Err-Limit.ensures.course c.requires.ready.0 history remembers) in
    stopped_written c.args.session.now.agent.parts.settings.watch c.args.session.now.agent.mid_line (cycle_of (agent_of c.args.session.now.agent.parts history)) c.cycle.new.self.agent (g.O.Sink.written c.args.out.now) (g.O.Sink.written c.put_cycle-in-Err-Limit.new.out)
    c.put_cycle-in-Err-Limit.result c.put_cycle-in-Err-Limit.ensures.went it.0
    (subst (λ (text : List ℕ). OnOk c.put_cycle-in-Err-Limit.result (Appends (g.O.Sink.written c.args.out.now) (g.O.Sink.written c.put_cycle-in-Err-Limit.new.out) text)) it.1 c.put_cycle-in-Err-Limit.ensures.written)

pub returns-in-Err-Limit-clause-prefix : goal.returns-in-Err-Limit-clause-prefix
returns-in-Err-Limit-clause-prefix g c = λ history remembers.
    let it = stopped_text c.args.session.now.agent.parts.settings.watch c.args.session.now.agent.mid_line (cycle_of (agent_of c.args.session.now.agent.parts history)) c.cycle.new.self.agent _ c.cycle.new.text c.in-Err-Limit.field-0 c.in-Err-Limit.limit c.new-text.ensures
    c.in-Err-Limit.field-0-is (c.in-Err-Limit.ensures.course c.requires.ready.0 history remembers) in
    subst (λ (text : List ℕ). AppendsSome (g.O.Sink.written c.args.out.now) (g.O.Sink.written c.put_cycle-in-Err-Limit.new.out) text) it.1 c.put_cycle-in-Err-Limit.ensures.prefix
