use Rattle.std.proofs.Common.{map, subst, sym}
use Rattle.soar_wm.specs.WorkingMemory.{triple_of}
use Rattle.cycle_phases.specs.Levels.{TellsLevels}
use Rattle.cycle_phases.specs.Seen.{IsSound}
use Rattle.cycle_phases.proofs.PartsSoundLemmas.{levels_told}
use Rattle.soar_cycle.specs.Agents.{AgentSeen}
use Rattle.soar_cycle.proofs.agent.Agent.levels.Goals as goal

pub returns-clause-told : goal.returns-clause-told
returns-clause-told g c = λ sound.
    let parts = c.self.inside.engine.parts in
    subst (λ (a : AgentSeen). TellsLevels parts.kept a.parts.goals (map triple_of a.parts.memory.elements)) c.self.view_is
    (levels_told parts (subst (λ (a : AgentSeen). IsSound a.parts) (sym c.self.view_is) sound))
