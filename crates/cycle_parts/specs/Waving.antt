-- The answers of a wave of a phase.
use Rattle.std.specs.Prelude.{◌≡◌, ℕ, Bool, true, false, List, Result, Ok, Err}
use Rattle.defs_soar.specs.Agents.{Agent}
use Rattle.defs_soar.specs.Learning.{with_learning}
use Rattle.defs_soar.specs.Pending.{pending, is_none}
use Rattle.defs_soar.specs.Resettling.{AgentStep}
use Rattle.defs_soar.specs.Waves.{wave_of}
use Rattle.live_firings.specs.declared.live.Live.{Live}
use Rattle.soar_settle.specs.declared.stop.Stop.{Stop}
use Rattle.soar_settle.specs.declared.stop.Stop.TheVariants as stop
use Rattle.trace_lines.specs.declared.halting.Phase.{Phase}
use Rattle.trace_lines.specs.declared.halting.Phase.TheVariants.{Application, Proposal}
use Rattle.decision_parts.specs.Parts.{Parts as PartsKept}
use Rattle.decision_parts.specs.Stepping.{StopsStep, WentStep}
use Rattle.cycle_parts.specs.declared.waving.Waved.{Waved}
use Rattle.cycle_parts.specs.declared.waving.Waved.TheVariants as waved

-- in the proposal phase no operator is applied
abbrev pub is_proposing : Phase → Bool
is_proposing Proposal = true
is_proposing Application = false

-- how a wave with work went
abbrev pub waved_by : Bool → Waved
waved_by true = waved.Halted
waved_by false = waved.Went

-- what is pending in a state, carried out
abbrev pub wave_at : Bool → Agent → AgentStep
wave_at proposing s = wave_of with_learning s (pending proposing s)

-- the parts, of which these live firings were told
abbrev pub with_told : PartsKept → List Live → PartsKept
with_told a told = record a { live = record a.live { told = told } }

-- nothing was pending, and nothing changed but what was told
pub record Rested (proposing : Bool) (s : Agent) (old new : PartsKept) (mid new_mid : Bool) (before after : List ℕ) : Type 0 where
  pub none : is_none (pending proposing s) ≡ true
  pub same : new ≡ with_told old new.live.told
  pub text : after ≡ before
  pub mid_line : new_mid ≡ mid

-- something was, and a firing halted or none; what the wave told was appended
pub record Worked (watch : ℕ) (proposing : Bool) (s : Agent) (halted : Bool) (new : PartsKept) (mid new_mid : Bool) (before after : List ℕ) : Type 0 where
  pub some : is_none (pending proposing s) ≡ false
  pub went : WentStep watch mid (wave_at proposing s) new new_mid before after
  pub halted_is : (wave_at proposing s).halted ≡ halted

-- each answer, exactly where it comes; only want of memory is free
abbrev pub WavesFrom : ℕ → Bool → Agent → PartsKept → PartsKept → Bool → Bool → List ℕ → List ℕ → Result Waved Stop → Type 0
WavesFrom watch proposing s old new mid new_mid before after (Ok waved.Rest) = Rested proposing s old new mid new_mid before after
WavesFrom watch proposing s old new mid new_mid before after (Ok waved.Went) = Worked watch proposing s false new mid new_mid before after
WavesFrom watch proposing s old new mid new_mid before after (Ok waved.Halted) = Worked watch proposing s true new mid new_mid before after
WavesFrom watch proposing s old new mid new_mid before after (Err (stop.Limit limit)) =
    (is_none (pending proposing s) ≡ false) × StopsStep mid (wave_at proposing s) new_mid before after limit
WavesFrom watch proposing s old new mid new_mid before after (Err stop.NoMemory) = Unit {0}

-- whether something is pending in a state
abbrev pub TellsWork : Bool → Agent → Result Bool Stop → Type 0
TellsWork proposing s (Ok some) = is_none (pending proposing s) ≡ (elim some [ true ↦ false | false ↦ true ])
TellsWork proposing s (Err (stop.Limit limit)) = ⊥
TellsWork proposing s (Err stop.NoMemory) = Unit {0}
