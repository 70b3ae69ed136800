-- What a course of steps writes at a watch level, and how an agent goes along with one.
use Rattle.std.specs.Prelude.{◌≡◌, ℕ, Bool, true, false, List, [], ◌∷◌, ◌++◌, Option, Some, None, Result, Ok, Err}
use Rattle.defs_soar.specs.declared.limit.Which.{Which}
use Rattle.defs_soar.specs.Agents.{Agent}
use Rattle.defs_soar.specs.Cycle.{then_phase}
use Rattle.defs_soar.specs.Learning.{with_learning}
use Rattle.defs_soar.specs.Limits.{or_limit, first_passed}
use Rattle.defs_soar.specs.Phases.{Said, Course, Phased, phase, still}
use Rattle.defs_soar.specs.Trace.{Written, followed_by, pieces_of, rendered}
use Rattle.soar_settle.specs.declared.stop.Stop.{Stop}
use Rattle.soar_settle.specs.declared.stop.Stop.TheVariants as stop
use Rattle.trace_lines.specs.Saying.{part_of}
use Rattle.trace_lines.specs.declared.halting.Phase.{Phase}
use Rattle.cycle_parts.specs.Stands.{Stands}
use Rattle.cycle_parts.specs.Parts.{Parts as PartsKept}
use Rattle.cycle_parts.specs.Waving.{is_proposing}
use Rattle.cycle_phases.specs.declared.phase.Ended.{Ended}
use Rattle.cycle_phases.specs.declared.phase.Ended.TheVariants as ended

-- ---- steps in a row

-- the limit that the steps pass first
abbrev pub limit_in : List Said → Option Which
limit_in [] = None
limit_in (s ∷ steps) = or_limit (first_passed s.totals) (limit_in steps)

-- what the steps before it write, behind text that ended in the middle of a line or not
abbrev pub front_said : ℕ → Bool → List Said → Written
front_said watch mid [] = record { text = []; mid_line = mid }
front_said watch mid (s ∷ steps) =
    elim (first_passed s.totals) [
      | Some limit ↦ record { text = []; mid_line = mid }
      | None ↦ let w = rendered watch mid (pieces_of s.words s.events) in followed_by w (front_said watch w.mid_line steps)
    ]

-- ---- an agent along a course

-- the parts stand for the state behind the course, which passed no limit, and its lines were appended
pub record Went (watch : ℕ) (mid : Bool) (c : Course) (new : PartsKept) (new_mid : Bool) (before after : List ℕ) : Type 0 where
  pub stands : Stands new c.agent
  pub within : limit_in c.steps ≡ None
  pub text : after ≡ before ++ (front_said watch mid c.steps).text
  pub mid_line : new_mid ≡ (front_said watch mid c.steps).mid_line

-- the limit is the first that the course passes, and what came before it was appended
pub record Passed (watch : ℕ) (mid : Bool) (c : Course) (new_mid : Bool) (before after : List ℕ) (limit : Which) : Type 0 where
  pub passed : limit_in c.steps ≡ Some limit
  pub text : after ≡ before ++ (front_said watch mid c.steps).text
  pub mid_line : new_mid ≡ (front_said watch mid c.steps).mid_line

-- each answer, exactly where it comes; only want of memory is free
abbrev pub Goes : {T : Type 0} → ℕ → Bool → Course → PartsKept → Bool → List ℕ → List ℕ → Result T Stop → Type 0
Goes watch mid c new new_mid before after (Ok done) = Went watch mid c new new_mid before after
Goes watch mid c new new_mid before after (Err (stop.Limit limit)) = Passed watch mid c new_mid before after limit
Goes watch mid c new new_mid before after (Err stop.NoMemory) = Unit {0}

-- ---- a phase

-- from a state on: the line that begins it, its waves, and the line of a cut
abbrev pub phase_course : Phase → Agent → Course
phase_course part s = then_phase with_learning (part_of part) (is_proposing part) (still s)

abbrev pub phased : Phase → Agent → Phased
phased part s = phase with_learning (is_proposing part) s

-- how it ended: cut, or at rest, halted or not
abbrev pub ended_as : Bool → Bool → Ended
ended_as true halted = ended.Cut
ended_as false true = ended.Halted
ended_as false false = ended.Quiet

abbrev pub IsEndOf : Phased → Result Ended Stop → Type 0
IsEndOf p (Ok end) = end ≡ ended_as p.is_cut p.course.agent.halted
IsEndOf p (Err why) = Unit {0}
