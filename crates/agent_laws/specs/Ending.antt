-- That learning ends: each round is about firings of higher goals than the one before, and in the end there is nothing left to learn from.
use Rattle.std.specs.Prelude.{◌≡◌, ℕ, suc, ◌<◌, ◌≤◌, List, [], length}
use Rattle.defs_soar.specs.Agents.{Agent}
use Rattle.defs_soar.specs.History.{FiringOf}
use Rattle.defs_soar.specs.Laws.{IsIn}
use Rattle.defs_soar.specs.Learning.{one_round, with_learning}
use Rattle.defs_soar.specs.Pending.{Firable, Work}
use Rattle.defs_soar.specs.WaveAtHand.{BeforeWave, Wave}
use Rattle.defs_soar.specs.WaveFirings.{first_wave, before_wave, with_firings}
use Rattle.defs_soar.specs.Waves.{worked}
use Rattle.learning_laws.specs.LawfulAgents.{IsLawfulAgent}
use Rattle.learning_laws.specs.LawfulWaves.{fresh_firings}

-- the firings from which learning goes on are of goals of these depths; and no number is above the last one
pub record GoesOnWithin (depth : ℕ) (w : Wave) : Type 0 where
  pub numbers : (f : FiringOf) → IsIn f (fresh_firings w) → f.number ≤ w.last_firing
  pub next : (n : ℕ) → IsIn n w.next → n ≤ w.last_firing
  pub depths : (f : FiringOf) → IsIn f (fresh_firings w) → IsIn f.number w.next → f.depth ≤ depth

-- after a round they are of higher goals
abbrev pub RoundsRise : Type 0
RoundsRise = (m : BeforeWave) (depth : ℕ) (w : Wave) → GoesOnWithin (suc depth) w → GoesOnWithin depth (one_round m w)

abbrev pub LearningEnds : Type 0
LearningEnds = (m : BeforeWave) (w : Wave) → 0 < length m.reach.goals → GoesOnWithin (length m.reach.goals) w → (with_learning m w).next ≡ []

-- so it is with the firings of a wave, whatever fires
abbrev pub FiringsGoOnWithin : Type 0
FiringsGoOnWithin = (a : Agent) (firables : List Firable) → GoesOnWithin (length a.holding.goals) (with_firings (before_wave a) (first_wave a) firables)

abbrev pub WavesLearnAll : Type 0
WavesLearnAll = (a : Agent) (work : Work) → IsLawfulAgent a → (worked with_learning a work).next ≡ []
