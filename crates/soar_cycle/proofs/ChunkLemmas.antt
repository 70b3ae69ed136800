-- What a wave of a sound agent learns goes again.
use Rattle.defs_soar.specs.Pending.{pending}
use Rattle.defs_soar.specs.WaveFirings.{before_wave, first_wave, with_firings}
use Rattle.learning_laws.proofs.FiringsLaws.{all_firings_keep}
use Rattle.trace_lines.specs.declared.halting.Phase.{Phase}
use Rattle.wave_chunk_laws.proofs.StepLaws.{lawful_waves_learn_well}
use Rattle.cycle_phases.specs.Waving.{is_proposing}
use Rattle.soar_cycle.specs.Agents.{AgentSeen}
use Rattle.soar_cycle.specs.Chunks.{LearnsWell}

pub learns_well : (a : AgentSeen) (phase : Phase) → LearnsWell a.parts phase
learns_well a phase s here lawful =
    lawful_waves_learn_well s (with_firings (before_wave s) (first_wave s) (pending (is_proposing phase) s).fired) lawful (all_firings_keep s (is_proposing phase) lawful)
