use Rattle.std.proofs.Common.{List}
use Rattle.soar_sym.specs.declared.symbol.Triple.{Triple}
use Rattle.soar_cycle.specs.Seen.{agent_of}
use Rattle.soar_cycle.proofs.StandsLemmas.{stands_at}
use Rattle.defs_soar.specs.Cycle.{held_with}
use Rattle.letter_laws.proofs.GrowthLaws.{settling_gives_none}
use Rattle.soar_cycle.specs.Calls.{input_step, with_input}
use Rattle.soar_agent.proofs.ReplyLemmas.{settles, settles_none, with_kept}
use Rattle.soar_agent.proofs.ReadyLemmas.{ready_stepped, triple_given}
use Rattle.soar_agent.proofs.state.Session.change_inputs.Goals as goal

pub input_now-requires-clause-given : goal.input_now-requires-clause-given
input_now-requires-clause-given g c = λ standing. triple_given c.args.self.now.agent.parts c.args.triple c.requires.known c.requires.numbered

pub returns-in-Ok-clause-ready : goal.returns-in-Ok-clause-ready
returns-in-Ok-clause-ready g c =
    ready_stepped c.args.self.now c.input_now.new.self (input_step c.args.adds c.args.triple) c.requires.ready c.in-Ok.ensures.standing c.in-Ok.ensures.sound
    (λ t stands. (c.in-Ok.ensures.step c.requires.ready.0 t stands).stepped) (λ t. settling_gives_none t (held_with t (with_input c.args.adds c.args.triple t.holding.inputs)))

pub returns-in-Ok-clause-reply : goal.returns-in-Ok-clause-reply
returns-in-Ok-clause-reply g c = λ history remembers.
    let inputs : List Triple = with_input c.args.adds c.args.triple c.args.self.now.agent.parts.inputs in
    settles c.args.self.now c.input_now.new.self inputs history c.args.out.now c.input_now.new.text
    (ready_stepped c.args.self.now c.input_now.new.self (input_step c.args.adds c.args.triple) c.requires.ready c.in-Ok.ensures.standing c.in-Ok.ensures.sound
    (λ t stands. (c.in-Ok.ensures.step c.requires.ready.0 t stands).stepped) (λ t. settling_gives_none t (held_with t (with_input c.args.adds c.args.triple t.holding.inputs))))
    (c.in-Ok.ensures.step c.requires.ready.0 (agent_of c.args.self.now.agent.parts history) (stands_at c.args.self.now.agent.parts history remembers))

pub returns-in-Err-clause-reply : goal.returns-in-Err-clause-reply
returns-in-Err-clause-reply g c = λ history remembers.
    let inputs : List Triple = with_input c.args.adds c.args.triple c.args.self.now.agent.parts.inputs in
    settles_none c.args.self.now (with_kept c.input_now.new.self c.args.self.now) inputs history c.args.out.now c.input_now.new.text c.in-Err.stop
    (c.in-Err.ensures.step c.requires.ready.0 (agent_of c.args.self.now.agent.parts history) (stands_at c.args.self.now.agent.parts history remembers))
