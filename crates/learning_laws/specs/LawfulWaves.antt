-- Lawful waves: what the work of a wave keeps, so that the agent that it leaves is lawful.
use Rattle.std.specs.Prelude.{◌≡◌, ◌<◌, ◌≤◌, ℕ, false, Bool, List, ◌++◌, map}
use Rattle.soar_wm.specs.declared.element.Element.{Element}
use Rattle.defs_match.specs.Conflict.{instances_of}
use Rattle.defs_match.specs.Rules.{RuleOf}
use Rattle.defs_match.specs.declared.instance.Instance.{Instance}
use Rattle.defs_soar.specs.declared.preference.Wish.{Wish}
use Rattle.defs_soar.specs.Agents.{Agent, LiveFiring}
use Rattle.defs_soar.specs.Cycle.{run}
use Rattle.defs_soar.specs.History.{FiringOf}
use Rattle.defs_soar.specs.Laws.{IsIn}
use Rattle.defs_soar.specs.Learning.{explained_on, with_learning, without_learning}
use Rattle.defs_soar.specs.Events.{LearningEvent}
use Rattle.defs_soar.specs.LearnedFirings.{ExplainedFiring, without_rule}
use Rattle.defs_soar.specs.Outcome.{chunked}
use Rattle.defs_soar.specs.Pending.{firable_of, is_justification, pending}
use Rattle.defs_soar.specs.Phases.{phase}
use Rattle.defs_soar.specs.Resettling.{AgentStep}
use Rattle.defs_soar.specs.Results.{results_of}
use Rattle.defs_soar.specs.LearnedRules.{after_explanation, with_names}
use Rattle.defs_soar.specs.Uses.{all_uses}
use Rattle.defs_soar.specs.WaveAtHand.{all_fresh, SupportedWish, Fresh, Wave, WaveEnd}
use Rattle.defs_soar.specs.WaveFirings.{first_wave, before_wave, reach_of, with_firing, with_firings}
use Rattle.defs_soar.specs.Waves.{after_work, wave_of}
use Rattle.learning_laws.specs.LawfulAgents.{firings_of_agent, IsFounded, IsLawfulAgent}
use Rattle.learning_laws.specs.LearningSteps.{IsLearningStep, LearnsChunk, outcome_at}
use Rattle.learning_laws.specs.BeforeWave.{CanBeMade}

abbrev pub fresh_firings : Wave → List FiringOf
fresh_firings w = map (λ (x : Fresh). x.firing) (all_fresh w.entries)

-- The state before the wave stands on the history with the firings of the wave; what is held of a firing is what it made; that can be made; and what it used are
-- the uses of elements that were there.
pub record IsLawfulWave (a : Agent) (w : Wave) : Type 0 where
  pub founded : IsFounded w.names a.holding a.queues.input w.program.rules w.last_firing (firings_of_agent a ++ fresh_firings w)
  pub wishes : (x : Fresh) → IsIn x (all_fresh w.entries) → (y : SupportedWish) → IsIn y x.wishes → IsIn y.wish x.firing.made
  pub counted : a.counts.firings ≤ w.last_firing
  pub later : (x : Fresh) → IsIn x (all_fresh w.entries) → a.counts.firings < x.firing.number
  pub explains : (x : Fresh) → IsIn x (all_fresh w.entries) → (elements : List Element) × ((e : Element) → IsIn e elements → IsIn e a.holding.elements) × (x.firing.used ≡ all_uses (reach_of a) a.holding.rows x.firing.depth elements)
  pub can : (x : Fresh) → IsIn x (all_fresh w.entries) → (u : Wish) → IsIn u x.firing.made → CanBeMade a.holding.goals u

-- it begins lawful, and what it leaves is lawful
abbrev pub WavesBegin : Type 0
WavesBegin = (a : Agent) → IsLawfulAgent a → IsLawfulWave a (first_wave a)

-- the firing of an instance keeps it so, and so do all that are pending
abbrev pub FiringsKeep : Type 0
FiringsKeep =
    (a : Agent) (w : Wave) (rule : RuleOf) (i : Instance) → IsLawfulAgent a → IsLawfulWave a w → IsIn rule w.program.rules → is_justification rule.production.kind ≡ false
    → IsIn i (instances_of a.holding.elements rule) → IsLawfulWave a (with_firing (before_wave a) w (firable_of a.holding.elements rule i))

abbrev pub AllFiringsKeep : Type 0
AllFiringsKeep = (a : Agent) (proposing : Bool) → IsLawfulAgent a → IsLawfulWave a (with_firings (before_wave a) (first_wave a) (pending proposing a).fired)

abbrev pub WorkKeeps : Type 0
WorkKeeps = (a : Agent) (gone : List LiveFiring) (w : Wave) → IsLawfulAgent a → IsLawfulWave a w → IsLawfulAgent (after_work a gone w).agent

-- what a firing of a lawful wave teaches at any time in it, where the outcome is a chunk, is a learning step: so the chunk goes again
abbrev pub explained_in : Agent → Wave → FiringOf → ExplainedFiring
explained_in a w f = explained_on (before_wave a) f (results_of w.names.words (reach_of a) a.holding.rows f)

abbrev pub WavesGiveLearningSteps : Type 0
WavesGiveLearningSteps =
    (a : Agent) (w : Wave) (x : Fresh) → IsLawfulAgent a → IsLawfulWave a w → IsIn x (all_fresh w.entries) → outcome_at (before_wave a) (explained_in a w x.firing) w ≡ chunked
    → IsLearningStep (before_wave a) (explained_in a w x.firing) w

abbrev pub ChunksOfWavesGoAgain : Type 0
ChunksOfWavesGoAgain =
    (a : Agent) (w : Wave) (x : Fresh) → IsLawfulAgent a → IsLawfulWave a w → IsIn x (all_fresh w.entries) → outcome_at (before_wave a) (explained_in a w x.firing) w ≡ chunked
    → a.settings.local_negations ≡ false → LearnsChunk (before_wave a) (explained_in a w x.firing) w (after_explanation (before_wave a) (explained_in a w x.firing) w)

-- ---- each learning step keeps a wave lawful; so learning does, and a wave, a phase and a run keep an agent lawful

abbrev pub LearningStepsKeep : Type 0
LearningStepsKeep =
    (a : Agent) (w : Wave) (x : Fresh) → IsLawfulAgent a → IsLawfulWave a w → IsIn x (all_fresh w.entries) → IsLawfulWave a (after_explanation (before_wave a) (explained_in a w x.firing) w)

-- two parts of it: words that join the table keep a wave lawful, and so does a learning step without a rule
abbrev pub NamesKeep : Type 0
NamesKeep = (a : Agent) (w : Wave) (texts : List (List ℕ)) → IsLawfulWave a w → IsLawfulWave a (with_names texts w)

abbrev pub StepsWithoutRuleKeep : Type 0
StepsWithoutRuleKeep = (a : Agent) (w : Wave) (l : ExplainedFiring) (learning_event : LearningEvent) → IsLawfulWave a w → IsLawfulWave a (without_rule l learning_event w)

-- what a wave does after its firings keeps it lawful, as learning does, and as doing without does
abbrev pub KeepsWaves : WaveEnd → Type 0
KeepsWaves end = (a : Agent) (w : Wave) → IsLawfulAgent a → IsLawfulWave a w → IsLawfulWave a (end (before_wave a) w)

abbrev pub LearningKeeps : Type 0
LearningKeeps = KeepsWaves with_learning

abbrev pub DoingWithoutKeeps : Type 0
DoingWithoutKeeps = KeepsWaves without_learning

-- so with any such end a wave keeps an agent lawful, a phase does, and any number of cycles
abbrev pub WavesKeep : Type 0
WavesKeep = (end : WaveEnd) → KeepsWaves end → (a : Agent) (proposing : Bool) → IsLawfulAgent a → IsLawfulAgent (wave_of end a (pending proposing a)).agent

abbrev pub PhasesKeep : Type 0
PhasesKeep = (end : WaveEnd) → KeepsWaves end → (a : Agent) (proposing : Bool) → IsLawfulAgent a → IsLawfulAgent (phase end proposing a).course.agent

-- a way to deciding that keeps an agent lawful
abbrev pub KeepsAgents : (Agent → AgentStep) → Type 0
KeepsAgents deciding = (a : Agent) → IsLawfulAgent a → IsLawfulAgent (deciding a).agent

abbrev pub RunsKeep : Type 0
RunsKeep = (deciding : Agent → AgentStep) (end : WaveEnd) → KeepsAgents deciding → KeepsWaves end → (n : ℕ) (a : Agent) → IsLawfulAgent a → IsLawfulAgent (run deciding end n a).agent
