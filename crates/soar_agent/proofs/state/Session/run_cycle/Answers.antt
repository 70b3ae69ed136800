use Rattle.std.proofs.Common.{◌∙◌, ◌++◌, ap}
use Rattle.defs_soar.specs.Cycle.{cycle}
use Rattle.defs_soar.specs.Decision.{decided_by}
use Rattle.defs_soar.specs.Learning.{with_learning}
use Rattle.defs_soar.specs.Phases.{Course}
use Rattle.soar_cycle.specs.Seen.{agent_of}
use Rattle.soar_cycle.proofs.StandsLemmas.{stands_at}
use Rattle.letter_laws.proofs.GrowthLaws.{cycles_grow}
use Rattle.soar_agent.proofs.CycleLemmas.{cycle_said, cycle_stopped}
use Rattle.soar_agent.proofs.ReadyLemmas.{letters_more, ready_after}
use Rattle.soar_agent.proofs.state.Session.run_cycle.Goals as goal

pub returns-in-Ok-clause-ready : goal.returns-in-Ok-clause-ready
returns-in-Ok-clause-ready g c =
    ready_after c.args.self.now c.cycle.new.self c.requires c.in-Ok.ensures.standing c.in-Ok.ensures.sound
    (letters_more c.args.self.now.agent.parts c.cycle.new.self.parts (λ t. (cycle decided_by with_learning t).agent) c.requires.2 (λ t stands. (c.in-Ok.ensures.step c.requires.0 t stands).stands) cycles_grow)

pub returns-in-Ok-clause-course : goal.returns-in-Ok-clause-course
returns-in-Ok-clause-course g c = λ history remembers.
    let course : Course = cycle decided_by with_learning (agent_of c.args.self.now.agent.parts history) in
    cycle_said c.args.self.now.agent.parts.settings.watch c.args.self.now.agent.mid_line course c.cycle.new.self.parts c.cycle.new.self.mid_line _ c.cycle.new.text c.args.text.now c.push_str.new.self c.new-said.ensures
    (c.in-Ok.ensures.step c.requires.0 (agent_of c.args.self.now.agent.parts history) (stands_at c.args.self.now.agent.parts history remembers))
    (c.in_ok-push_str-in-Ok.ensures.ok ∙ ap (λ t. c.args.text.now ++ t) c.as_str.ensures)

pub returns-clause-course : goal.returns-clause-course
returns-clause-course g c = λ history remembers.
    let course : Course = cycle decided_by with_learning (agent_of c.args.self.now.agent.parts history) in
    cycle_stopped c.args.self.now.agent.parts.settings.watch c.args.self.now.agent.mid_line course c.cycle.new.self c.mid_line.result _ c.cycle.new.text c.args.text.now c.say_stop.new.text c.in-Err.stop c.say_stop.result
    c.new-said.ensures c.mid_line.ensures (c.in-Err.ensures.step c.requires.0 (agent_of c.args.self.now.agent.parts history) (stands_at c.args.self.now.agent.parts history remembers)) c.say_stop.ensures
