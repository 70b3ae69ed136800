use Rattle.std.proofs.Common.{subst, sym}
use Rattle.cycle_phases.specs.Stands.{Stands}
use Rattle.soar_cycle.specs.Agents.{AgentSeen}
use Rattle.cycle_phases.specs.Waving.{WavesFrom, is_proposing}
use Rattle.soar_cycle.proofs.ChunkLemmas.{learns_well}
use Rattle.soar_cycle.proofs.ToldLemmas.{waves_told}
use Rattle.soar_cycle.proofs.agent.Agent.wave.Goals as goal

pub returns-clause-step : goal.returns-clause-step
returns-clause-step g c = λ standing s stands.
    subst (λ (a : AgentSeen). WavesFrom a.parts.settings.watch (is_proposing c.args.phase) s a.parts c.wave-answer.new.self.parts a.mid_line c.wave-answer.new.mid_line c.args.text.now c.tell-answer.new.text c.tell-answer.result) c.self.view_is
    (waves_told c.self.inside.engine.parts.settings.watch (is_proposing c.args.phase) s c.self.inside.engine.parts c.wave-answer.new.self.parts c.self.inside.mid_line c.wave-answer.new.mid_line c.new-said.result c.wave-answer.new.out c.args.text.now
    c.tell-answer.new.text c.wave-answer.result c.tell-answer.result c.new-said.ensures c.tell-answer.ensures
    (c.wave-answer.ensures.wave s (subst (λ (a : AgentSeen). Stands a.parts s) (sym c.self.view_is) stands)))

pub returns-clause-chunks : goal.returns-clause-chunks
returns-clause-chunks g c = λ standing. learns_well c.args.self.now c.args.phase
