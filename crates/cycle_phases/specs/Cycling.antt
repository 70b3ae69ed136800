-- The phases of a cycle, each behind the course of those before it.
use Rattle.std.specs.Prelude.{◌≡◌, ℕ, Bool, true, List, Result}
use Rattle.defs_soar.specs.Cycle.{after_input, then_application, then_decision, then_phase, unless_halted}
use Rattle.defs_soar.specs.Decision.{decided_by}
use Rattle.defs_soar.specs.Events.{proposal_phase}
use Rattle.defs_soar.specs.Learning.{with_learning}
use Rattle.defs_soar.specs.Phases.{Course, then_step}
use Rattle.soar_settle.specs.declared.stop.Stop.{Stop}
use Rattle.cycle_parts.specs.Parts.{Parts as PartsKept}
use Rattle.cycle_phases.specs.Courses.{Goes, Went}

abbrev pub with_input : Course → Course
with_input c = then_step c (after_input c.agent)

abbrev pub with_proposals : Course → Course
with_proposals c = then_phase with_learning proposal_phase true c

abbrev pub with_decision : Course → Course
with_decision c = unless_halted (then_decision decided_by) c

abbrev pub with_application : Course → Course
with_application c = unless_halted (then_application with_learning) c

-- behind each course, told at the level that is set, the agent goes on as this function of courses says
abbrev pub GoesOn : {T : Type 0} → ℕ → (Course → Course) → PartsKept → PartsKept → Bool → Bool → List ℕ → List ℕ → Result T Stop → Type 0
GoesOn watch f old new old_mid new_mid between after result =
    old.settings.watch ≡ watch → (mid : Bool) (c : Course) (before : List ℕ) → Went watch mid c old old_mid before between
    → Goes watch mid (f c) new new_mid before after result
