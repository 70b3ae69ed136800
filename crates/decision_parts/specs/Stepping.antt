-- A step of an agent with what it writes at a watch level, behind text that ended in the middle of a line or not.
use Rattle.std.specs.Prelude.{◌≡◌, ℕ, Bool, List, ◌++◌, Some, Result, Ok, Err}
use Rattle.defs_soar.specs.declared.limit.Which.{Which}
use Rattle.defs_soar.specs.Limits.{first_passed}
use Rattle.defs_soar.specs.Resettling.{AgentStep}
use Rattle.defs_soar.specs.Trace.{Written, pieces_of, rendered}
use Rattle.soar_settle.specs.declared.stop.Stop.{Stop}
use Rattle.soar_settle.specs.declared.stop.Stop.TheVariants as stop
use Rattle.wave_parts.specs.Seen.{Stepped}
use Rattle.wave_parts.specs.declared.parts.Parts.{Parts as PartsKept}

-- what a step writes
abbrev pub step_written : ℕ → Bool → AgentStep → Written
step_written watch mid s = rendered watch mid (pieces_of s.agent.names.words s.events)

-- the parts stand for the state after the step, which passed no limit, and its lines were appended
pub record WentStep (watch : ℕ) (mid : Bool) (s : AgentStep) (new : PartsKept) (new_mid : Bool) (before after : List ℕ) : Type 0 where
  pub stepped : Stepped new s
  pub text : after ≡ before ++ (step_written watch mid s).text
  pub mid_line : new_mid ≡ (step_written watch mid s).mid_line

-- the limit is the first that the step passes, and nothing was appended
pub record StopsStep (mid : Bool) (s : AgentStep) (new_mid : Bool) (before after : List ℕ) (limit : Which) : Type 0 where
  pub passed : first_passed s.totals ≡ Some limit
  pub text : after ≡ before
  pub mid_line : new_mid ≡ mid

-- each answer, exactly where it comes; only want of memory is free
abbrev pub GoesStep : {T : Type 0} → ℕ → Bool → AgentStep → PartsKept → Bool → List ℕ → List ℕ → Result T Stop → Type 0
GoesStep watch mid s new new_mid before after (Ok done) = WentStep watch mid s new new_mid before after
GoesStep watch mid s new new_mid before after (Err (stop.Limit limit)) = StopsStep mid s new_mid before after limit
GoesStep watch mid s new new_mid before after (Err stop.NoMemory) = Unit {0}

-- the same of a step that writes nothing
abbrev pub QuietStep : {T : Type 0} → AgentStep → PartsKept → Result T Stop → Type 0
QuietStep s new (Ok done) = Stepped new s
QuietStep s new (Err (stop.Limit limit)) = first_passed s.totals ≡ Some limit
QuietStep s new (Err stop.NoMemory) = Unit {0}
