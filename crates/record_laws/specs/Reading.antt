-- An agent whose history is a part of another's is lawful like it, and learns the same.
use Rattle.std.specs.Prelude.{◌≡◌, ℕ, ◌≤◌, List}
use Rattle.defs_soar.specs.Agents.{Agent}
use Rattle.defs_soar.specs.History.{FiringOf, RecordedFiring}
use Rattle.defs_soar.specs.Laws.{IsIn}
use Rattle.defs_soar.specs.Learning.{with_learning}
use Rattle.defs_soar.specs.Standing.{roots_of}
use Rattle.defs_soar.specs.WaveAtHand.{Wave}
use Rattle.defs_soar.specs.WaveFirings.{before_wave}
use Rattle.learning_laws.specs.LawfulAgents.{firings_of_agent, IsLawfulAgent}
use Rattle.learning_laws.specs.LawfulWaves.{IsLawfulWave}
use Rattle.agent_laws.specs.Dependence.{firings_in}
use Rattle.agent_laws.specs.Records.{IsPartOf}
use Rattle.record_laws.specs.Closed.{HasMakers}

-- numbers up to this one
abbrev pub AreUpTo : ℕ → List FiringOf → Type 0
AreUpTo last firings = (f : FiringOf) → IsIn f firings → f.number ≤ last

-- a part that has the makers of its firings, in the place of the history
abbrev pub LawfulByRecord : Type 0
LawfulByRecord =
    (kept : List RecordedFiring) (a : Agent) → IsLawfulAgent a → IsPartOf (firings_in kept) (firings_of_agent a) (roots_of a) → HasMakers (firings_in kept)
    → IsLawfulAgent (record a { history = kept })

-- with each history of which that of a lawful agent is such a part, a lawful wave learns what it does
abbrev pub LearningByRecord : Type 0
LearningByRecord =
    (a : Agent) (w : Wave) (others : List FiringOf) → IsLawfulAgent a → IsLawfulWave a w → IsPartOf (firings_of_agent a) others (roots_of a) → AreUpTo a.counts.firings others
    → with_learning (record (before_wave a) { firings = others }) w ≡ with_learning (before_wave a) w
