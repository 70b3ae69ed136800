-- Carrying out the work of a wave.
use Rattle.std.specs.Prelude.{◌≡◌, Bool, map, Some, Result, Ok, Err}
use Rattle.defs_match.specs.Rules.{rule_seen}
use Rattle.defs_soar.specs.Learning.{with_learning}
use Rattle.defs_soar.specs.Limits.{first_passed}
use Rattle.defs_soar.specs.Agents.{Agent}
use Rattle.defs_soar.specs.Pending.{Work as WorkOf}
use Rattle.defs_soar.specs.Resettling.{AgentStep}
use Rattle.defs_soar.specs.Waves.{wave_of}
use Rattle.pending_work.specs.Firables.{IsPending}
use Rattle.step_report.specs.Reports.{report_events}
use Rattle.step_report.specs.declared.report.Report.{Report}
use Rattle.wave_parts.specs.Seen.{pending_of, Stepped}
use Rattle.wave_parts.specs.Stands.{Stands}
use Rattle.wave_parts.specs.declared.parts.Parts.{Parts as PartsKept}
use Rattle.soar_settle.specs.declared.stop.Stop.{Stop}
use Rattle.soar_settle.specs.declared.stop.Stop.TheVariants as stop
use Rattle.wave_parts.specs.declared.carrying.Done.{Done}
use Rattle.pending_work.specs.declared.work.Work.{Work}

-- the step was gone whole, and this is what can be told of it
pub record Carried (new : PartsKept) (report : Report) (halted : Bool) (s : AgentStep) : Type 0 where
  pub stepped : Stepped new s
  pub halted_is : halted ≡ s.halted
  pub events_are : report_events report ≡ s.events

-- each answer, exactly where it comes: what the step did, or the limit; only want of memory is free
abbrev pub Carries : PartsKept → AgentStep → Result Done Stop → Type 0
Carries new s (Ok done) = Carried new done.report done.halted s
Carries new s (Err (stop.Limit which)) = first_passed s.totals ≡ Some which
Carries new s (Err stop.NoMemory) = Unit {0}

-- it is what is pending in these parts, in the proposal phase or not
abbrev pub IsPendingIn : PartsKept → Work → Type 0
IsPendingIn old work = (proposing : Bool) × IsPending (map rule_seen old.rules) old.memory.elements work (pending_of proposing old)

-- in each state that the parts stand for, for the work that this stands for
abbrev pub CarriesOut : PartsKept → PartsKept → Work → Result Done Stop → Type 0
CarriesOut old new work result =
    (s : Agent) → Stands old s → (w : WorkOf) → IsPending (map rule_seen old.rules) old.memory.elements work w
    → Carries new (wave_of with_learning s w) result
