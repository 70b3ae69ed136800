-- The firings of a wave join each history of which the record is a part.
use Rattle.std.specs.Prelude.{ℕ, Bool, List, ◌++◌}
use Rattle.defs_soar.specs.Agents.{Agent}
use Rattle.defs_soar.specs.History.{FiringOf}
use Rattle.defs_soar.specs.Pending.{pending}
use Rattle.defs_soar.specs.Standing.{AreFrom, roots_of}
use Rattle.defs_soar.specs.WaveAtHand.{WaveEnd}
use Rattle.defs_soar.specs.Waves.{wave_of, worked}
use Rattle.learning_laws.specs.LawfulAgents.{firings_of_agent, IsLawfulAgent}
use Rattle.learning_laws.specs.LawfulWaves.{fresh_firings, KeepsWaves}
use Rattle.agent_laws.specs.Records.{AreApart, AreRisingFrom, IsPartOf}
use Rattle.agent_laws.specs.RecordSteps.{KeepsOrder}
use Rattle.record_laws.specs.Closed.{AreRecorded, HasMakers}
use Rattle.record_laws.specs.Reading.{AreUpTo}

-- firings of greater numbers, which rise, stand in both under their numbers
abbrev pub LaterJoin : Type 0
LaterJoin =
    (last : ℕ) (kept others new : List FiringOf) → AreFrom others kept → AreUpTo last others → AreRisingFrom last new → AreFrom (others ++ new) (kept ++ new)

-- a record with new firings: each once, with their makers, and the roots of the agent after them
pub record IsRecordAfter (kept new : List FiringOf) (after : Agent) : Type 0 where
  pub apart : AreApart (kept ++ new)
  pub makers : HasMakers (kept ++ new)
  pub roots : AreRecorded (kept ++ new) (roots_of after)

abbrev pub WavesLeaveRecord : Type 0
WavesLeaveRecord =
    (end : WaveEnd) → KeepsWaves end → KeepsOrder end → (kept : List FiringOf) (a : Agent) (proposing : Bool) → IsLawfulAgent a → IsPartOf kept (firings_of_agent a) (roots_of a) → HasMakers kept
    → IsRecordAfter kept (fresh_firings (worked end a (pending proposing a))) (wave_of end a (pending proposing a)).agent
