-- A phase of waves on its way, and at its end.
use Rattle.std.specs.Prelude.{◌≡◌, ℕ, Bool, true, false, List, [], ◌∷◌, Result, Ok, Err}
use Rattle.soar_rule.specs.Repeat.{turns}
use Rattle.defs_soar.specs.Agents.{Agent}
use Rattle.defs_soar.specs.Events.{Event, Part, is_cut}
use Rattle.defs_soar.specs.Learning.{with_learning}
use Rattle.defs_soar.specs.Phases.{Course, Phased, still, one_wave}
use Rattle.soar_settle.specs.declared.stop.Stop.{Stop}
use Rattle.soar_settle.specs.declared.stop.Stop.TheVariants as stop
use Rattle.cycle_parts.specs.Parts.{Parts as PartsKept}
use Rattle.cycle_phases.specs.Courses.{Passed, Went}

-- so many waves are left behind a course, after which they come to what all waves from the initial state do
pub record Going (watch : ℕ) (proposing : Bool) (now : PartsKept) (left : ℕ) (initial : Agent) (mid now_mid : Bool) (before after : List ℕ) : Type 0 where
  pub course : Course
  pub went : Went watch mid course now now_mid before after
  pub is_left : turns left (one_wave with_learning proposing) course ≡ turns initial.settings.max_elaborations (one_wave with_learning proposing) (still initial)

-- each answer, exactly where it comes: whether the phase is cut, or the limit; only want of memory is free
abbrev pub GoesPhase : ℕ → Bool → Phased → PartsKept → Bool → List ℕ → List ℕ → Result Bool Stop → Type 0
GoesPhase watch mid p new new_mid before after (Ok cut) = Went watch mid p.course new new_mid before after × (cut ≡ p.is_cut)
GoesPhase watch mid p new new_mid before after (Err (stop.Limit limit)) = Passed watch mid p.course new_mid before after limit
GoesPhase watch mid p new new_mid before after (Err stop.NoMemory) = Unit {0}

-- a cut is told, and else nothing
abbrev pub cut_events : Part → Bool → List Event
cut_events part true = is_cut part ∷ []
cut_events part false = []
