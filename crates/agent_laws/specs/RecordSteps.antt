-- An agent's record of firings stays one: a wave's firings join it, other steps leave it as it is, and what no root reaches in it may go at any time.
use Rattle.std.specs.Prelude.{◌≡◌, ℕ, ◌≤◌, Bool, true, List, [], ◌++◌, map}
use Rattle.std.specs.List.{list_all}
use Rattle.soar_sym.specs.declared.symbol.Triple.{Triple}
use Rattle.defs_soar.specs.Agents.{Agent}
use Rattle.defs_soar.specs.Cycle.{after_input, after_output, held_with}
use Rattle.defs_soar.specs.Decision.{decided_by}
use Rattle.defs_soar.specs.Explanation.{explaining}
use Rattle.defs_soar.specs.History.{FiringOf}
use Rattle.defs_soar.specs.Laws.{IsIn}
use Rattle.defs_soar.specs.Learning.{with_learning, without_learning}
use Rattle.defs_soar.specs.Pending.{pending}
use Rattle.defs_soar.specs.Resettling.{resettled}
use Rattle.defs_soar.specs.Standing.{AreFrom, firings_of_history, is_recorded, IsRecordOf, roots_of}
use Rattle.defs_soar.specs.Start.{first_agent, restarted}
use Rattle.defs_soar.specs.WaveAtHand.{BeforeWave, Wave, WaveEnd}
use Rattle.defs_soar.specs.Waves.{wave_of, worked}
use Rattle.learning_laws.specs.LawfulAgents.{IsLawfulAgent}
use Rattle.learning_laws.specs.LawfulWaves.{fresh_firings, KeepsWaves}
use Rattle.agent_laws.specs.Records.{AreApart, AreRisingFrom, IsPartOf}

-- ---- steps without firings

abbrev pub FirstHasNoRecord : Type 0
FirstHasNoRecord = (watch : ℕ) → IsRecordOf [] (first_agent watch)

abbrev pub StartingAnewHasNoRecord : Type 0
StartingAnewHasNoRecord = (a : Agent) → IsRecordOf [] (restarted a)

abbrev pub InputKeepsRecord : Type 0
InputKeepsRecord = (kept : List FiringOf) (a : Agent) → IsRecordOf kept a → IsRecordOf kept (after_input a).agent

abbrev pub OutputKeepsRecord : Type 0
OutputKeepsRecord = (kept : List FiringOf) (a : Agent) → IsRecordOf kept a → IsRecordOf kept (after_output a).agent

-- a change of the inputs by an order
abbrev pub InputsKeepRecord : Type 0
InputsKeepRecord = (kept : List FiringOf) (a : Agent) (inputs : List Triple) → IsRecordOf kept a → IsRecordOf kept (resettled a (held_with a inputs)).agent

abbrev pub DecisionKeepsRecord : Type 0
DecisionKeepsRecord = (kept : List FiringOf) (a : Agent) → IsLawfulAgent a → IsRecordOf kept a → IsRecordOf kept (decided_by a).agent

-- what no root reaches in the record may go
abbrev pub RecordsMayShrink : Type 0
RecordsMayShrink =
    (less kept : List FiringOf) (a : Agent) → AreApart kept → IsRecordOf kept a → AreApart less → AreFrom kept less
    → list_all (is_recorded less) (explaining kept (roots_of a)) ≡ true → IsRecordOf less a

-- ---- waves

-- the numbers of a wave's firings rise above this one, up to the last
pub record IsInOrder (least : ℕ) (w : Wave) : Type 0 where
  pub rising : AreRisingFrom least (fresh_firings w)
  pub numbers : (f : FiringOf) → IsIn f (fresh_firings w) → f.number ≤ w.last_firing
  pub low : least ≤ w.last_firing

-- what a wave does after its firings keeps them in order, as learning does, and as doing without does
abbrev pub KeepsOrder : WaveEnd → Type 0
KeepsOrder end = (m : BeforeWave) (least : ℕ) (w : Wave) → IsInOrder least w → IsInOrder least (end m w)

abbrev pub LearningKeepsOrder : Type 0
LearningKeepsOrder = KeepsOrder with_learning

abbrev pub DoingWithoutKeepsOrder : Type 0
DoingWithoutKeepsOrder = KeepsOrder without_learning

-- a record with new firings, each with all that it reaches, is one of the agent after them
pub record IsJoined (kept new : List FiringOf) (after : Agent) : Type 0 where
  pub has_new : IsPartOf (kept ++ new) (firings_of_history after) (map (λ f. f.number) new)
  pub is_record : IsRecordOf (kept ++ new) after

abbrev pub WavesJoinRecord : Type 0
WavesJoinRecord =
    (end : WaveEnd) → KeepsWaves end → KeepsOrder end → (kept : List FiringOf) (a : Agent) (proposing : Bool) → IsLawfulAgent a → AreApart kept → IsRecordOf kept a
    → IsJoined kept (fresh_firings (worked end a (pending proposing a))) (wave_of end a (pending proposing a)).agent
