-- A new goal is new to the whole history: its number was not given before. So it depends on nothing.
use Rattle.std.specs.Prelude.{◌≡◌, ℕ, ◌+◌, Bool, List, [], Some}
use Rattle.soar_sym.specs.Letters.{last_of}
use Rattle.soar_sym.specs.declared.symbol.Sym.{Sym}
use Rattle.soar_sym.specs.declared.symbol.Sym.TheVariants.{Ident}
use Rattle.soar_sym.specs.declared.symbol.Triple.{Triple}
use Rattle.defs_soar.specs.Agents.{Agent}
use Rattle.defs_soar.specs.Cycle.{after_input, after_output, held_with}
use Rattle.defs_soar.specs.Decision.{decided_by}
use Rattle.defs_soar.specs.Dependencies.{dependency_set}
use Rattle.defs_soar.specs.History.{RecordedFiring}
use Rattle.defs_soar.specs.Laws.{IsIn}
use Rattle.defs_soar.specs.Learning.{with_learning, without_learning}
use Rattle.defs_soar.specs.Pending.{pending}
use Rattle.defs_soar.specs.Resettling.{resettled}
use Rattle.defs_soar.specs.Start.{first_agent, restarted}
use Rattle.defs_soar.specs.WaveAtHand.{all_fresh, Fresh, BeforeWave, Wave, WaveEnd}
use Rattle.defs_soar.specs.Waves.{wave_of}
use Rattle.defs_soar.specs.declared.goal.Goal.{Goal}
use Rattle.learning_laws.specs.LawfulAgents.{IsLawfulAgent, IsNumbered}

-- the goal of each firing of the history was given by the letters
abbrev pub PastGoalsAreGiven : Agent → Type 0
PastGoalsAreGiven a = (p : RecordedFiring) (s : Sym) → IsIn p a.history → p.goal ≡ Some s → IsNumbered a.names.letters s

-- so the goal that a decision makes next depends on nothing, at any depth
abbrev pub NextGoalDependsOnNothing : Type 0
NextGoalDependsOnNothing = (a : Agent) (depth : ℕ) → PastGoalsAreGiven a → dependency_set a.history (Ident 83 (last_of a.names.letters 83 + 1)) depth ≡ []

-- ---- each step keeps it so

abbrev pub FirstGoalsAreGiven : Type 0
FirstGoalsAreGiven = (watch : ℕ) → PastGoalsAreGiven (first_agent watch)

abbrev pub AnewGoalsAreGiven : Type 0
AnewGoalsAreGiven = (a : Agent) → PastGoalsAreGiven (restarted a)

abbrev pub InputKeepsGoals : Type 0
InputKeepsGoals = (a : Agent) → PastGoalsAreGiven a → PastGoalsAreGiven (after_input a).agent

abbrev pub OutputKeepsGoals : Type 0
OutputKeepsGoals = (a : Agent) → PastGoalsAreGiven a → PastGoalsAreGiven (after_output a).agent

abbrev pub InputsKeepGoals : Type 0
InputsKeepGoals = (a : Agent) (inputs : List Triple) → PastGoalsAreGiven a → PastGoalsAreGiven (resettled a (held_with a inputs)).agent

abbrev pub DecisionKeepsGoals : Type 0
DecisionKeepsGoals = (a : Agent) → IsLawfulAgent a → PastGoalsAreGiven a → PastGoalsAreGiven (decided_by a).agent

-- what a wave does after its firings gives no identifier, and its firings are of goals that there are
pub record IsOfGoals (goals : List Goal) (letters : List ℕ) (w : Wave) : Type 0 where
  pub letters_are : w.names.letters ≡ letters
  pub goals_are : (x : Fresh) (s : Sym) → IsIn x (all_fresh w.entries) → x.goal ≡ Some s → (g : Goal) × IsIn g goals × (g.id ≡ s)

abbrev pub KeepsGoals : WaveEnd → Type 0
KeepsGoals end = (m : BeforeWave) (letters : List ℕ) (w : Wave) → IsOfGoals m.reach.goals letters w → IsOfGoals m.reach.goals letters (end m w)

abbrev pub LearningKeepsGoals : Type 0
LearningKeepsGoals = KeepsGoals with_learning

abbrev pub DoingWithoutKeepsGoals : Type 0
DoingWithoutKeepsGoals = KeepsGoals without_learning

abbrev pub WavesKeepGoals : Type 0
WavesKeepGoals =
    (end : WaveEnd) → KeepsGoals end → (a : Agent) (proposing : Bool) → IsLawfulAgent a → PastGoalsAreGiven a → PastGoalsAreGiven (wave_of end a (pending proposing a)).agent
