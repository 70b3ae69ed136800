-- What a plan of tagging says. No public clause cites this module.
use Rattle.std.specs.Prelude.{◌≡◌, ◌+◌, ◌-◌, ◌≤◌, ◌^◌, not, List, length, filter, Some, None, Result, Ok, Err}
use Rattle.soar_sym.specs.Words.{Texts}
use Rattle.soar_sym.specs.declared.symbol.Triple.{Triple}
use Rattle.soar_wm.specs.WorkingMemory.{WorkingMemory, IsLawful}
use Rattle.defs_soar.specs.declared.goal.Goal.{Goal}
use Rattle.defs_soar.specs.Settling.{stays}
use Rattle.soar_settle.specs.Plans.{coming, staying}
use Rattle.soar_settle.specs.Settles.{after_of, passed_by}
use Rattle.touched_tags.specs.declared.planning.Plan.{Plan}
use Rattle.soar_settle.specs.declared.stop.Stop.{Stop}
use Rattle.soar_settle.specs.declared.stop.Stop.TheVariants as stop

-- what goes and what comes
pub record IsSought (words : Texts) (goals : List Goal) (kept : List Triple) (m : WorkingMemory) (plan : Plan) : Type 0 where
  pub lawful : IsLawful m
  pub going_are : plan.going ≡ filter (λ e. not (stays goals kept e)) m.elements
  pub triples_are : plan.triples ≡ coming words goals kept m

-- and no limit is passed by that
pub record IsPlan (words : Texts) (goals : List Goal) (kept : List Triple) (m : WorkingMemory) (plan : Plan) : Type 0 where
  pub sought : IsSought words goals kept m plan
  pub room : length (staying goals kept m) + length plan.triples ≤ 4000000
  pub left : m.last + length plan.triples ≤ 2 ^ 32 - 1
  pub within : passed_by (after_of words goals kept m) m ≡ None

-- each answer, exactly where it comes; only want of memory is free
abbrev pub Plans : Texts → List Goal → List Triple → WorkingMemory → Result Plan Stop → Type 0
Plans words goals kept m (Ok plan) = IsPlan words goals kept m plan
Plans words goals kept m (Err (stop.Limit which)) = passed_by (after_of words goals kept m) m ≡ Some which
Plans words goals kept m (Err stop.NoMemory) = Unit {0}
