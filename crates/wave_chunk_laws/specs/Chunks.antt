-- The steps by which a wave learns, in turn, and that each chunk goes again.
use Rattle.std.specs.Prelude.{◌≡◌, ℕ, zero, suc, Bool, false, ◌&&◌, ◌==◌, nat_lt, List, [], ◌∷◌, ◌++◌, filter, length, if◌then◌else◌}
use Rattle.std.specs.List.{list_any}
use Rattle.defs_match.specs.Rules.{RuleOf}
use Rattle.defs_soar.specs.Agents.{Agent, Learnt}
use Rattle.defs_soar.specs.LearnedFirings.{ExplainedFiring}
use Rattle.defs_soar.specs.LearnedRules.{after_explanation}
use Rattle.defs_soar.specs.Laws.{IsIn}
use Rattle.defs_soar.specs.Learning.{explained_on, learned_from_each, one_round, with_learning}
use Rattle.defs_soar.specs.Outcome.{chunked}
use Rattle.defs_soar.specs.Results.{is_result, results_of}
use Rattle.defs_soar.specs.WaveAtHand.{all_fresh, BeforeWave, Fresh, Wave}
use Rattle.defs_soar.specs.WaveFirings.{before_wave}
use Rattle.learning_laws.specs.LawfulAgents.{IsLawfulAgent}
use Rattle.learning_laws.specs.LawfulWaves.{IsLawfulWave}
use Rattle.learning_laws.specs.LearningSteps.{LearnsChunk, outcome_at}

-- ---- steps

-- a firing that made something for a higher goal, and the wave as it came out before it is learned from
pub record LearningStep : Type 0 where
  pub at : Wave
  pub of : Fresh

-- from a firing without results nothing is learned, and a firing of the top goal has none
abbrev pub has_results : BeforeWave → Fresh → Bool
has_results m x = nat_lt 1 x.firing.depth && list_any (is_result m.reach x.firing.depth) x.firing.made

abbrev pub first_step : BeforeWave → Wave → List Fresh → List LearningStep
first_step m w [] = []
first_step m w (x ∷ others) = if has_results m x then record { at = w; of = x } ∷ [] else []

-- from the firings of these numbers
abbrev pub steps_from : BeforeWave → List ℕ → Wave → List LearningStep
steps_from m [] w = []
steps_from m (n ∷ numbers) w = first_step m w (filter (λ x. x.firing.number == n) (all_fresh w.entries)) ++ steps_from m numbers (learned_from_each m (n ∷ []) w)

abbrev pub steps_of_rounds : ℕ → BeforeWave → Wave → List LearningStep
steps_of_rounds zero m w = []
steps_of_rounds (suc k) m w = steps_from m w.next (record w { next = [] }) ++ steps_of_rounds k m (one_round m w)

-- all of a wave that fired and now learns
abbrev pub steps_of_learning : BeforeWave → Wave → List LearningStep
steps_of_learning m w = steps_of_rounds (length m.reach.goals) m w

-- ---- what a step comes to

-- the firing with its explanation
abbrev pub explained_at : BeforeWave → LearningStep → ExplainedFiring
explained_at m s = explained_on m s.of.firing (results_of s.at.names.words m.reach m.rows s.of.firing)

-- the wave behind it
abbrev pub wave_behind : BeforeWave → LearningStep → Wave
wave_behind m s = after_explanation m (explained_at m s) s.at

-- The chunk that was learned goes again, and it and its explanation are there when the wave ends.
pub record GoesAgain (m : BeforeWave) (s : LearningStep) (end : Wave) : Type 0 where
  pub learns : LearnsChunk m (explained_at m s) s.at (wave_behind m s)
  pub rules_stay : (rule : RuleOf) → IsIn rule (wave_behind m s).program.rules → IsIn rule end.program.rules
  pub chains_stay : (l : Learnt) → IsIn l (wave_behind m s).program.chains → IsIn l end.program.chains

-- with local negations disallowed, each chunk that a wave learns goes again
abbrev pub EachChunkGoesAgain : Agent → Wave → Type 0
EachChunkGoesAgain a w =
    (s : LearningStep) → a.settings.local_negations ≡ false → IsIn s (steps_of_learning (before_wave a) w)
    → outcome_at (before_wave a) (explained_at (before_wave a) s) s.at ≡ chunked → GoesAgain (before_wave a) s (with_learning (before_wave a) w)

abbrev pub LawfulWavesLearnWell : Type 0
LawfulWavesLearnWell = (a : Agent) (w : Wave) → IsLawfulAgent a → IsLawfulWave a w → EachChunkGoesAgain a w
