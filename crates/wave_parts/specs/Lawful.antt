-- The parts stand for a lawful state, so that what a wave learns goes again.
use Rattle.defs_soar.specs.Agents.{Agent}
use Rattle.learning_laws.specs.LawfulAgents.{IsLawfulAgent}
use Rattle.wave_parts.specs.Stands.{Stands}
use Rattle.wave_parts.specs.declared.parts.Parts.{Parts as PartsKept}

pub record IsOfLawful (a : PartsKept) : Type 0 where
  pub agent : Agent
  pub stands : Stands a agent
  pub lawful : IsLawfulAgent agent
