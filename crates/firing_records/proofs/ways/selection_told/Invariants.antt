use Rattle.std.proofs.Common.{◌≡◌, drop}
use Rattle.defs_soar.specs.Uses.{selection_told}
use Rattle.firing_records.proofs.ways.selection_told.Given as goal

abbrev pub invariant-goals : goal.invariant-goals
invariant-goals l = selection_told (drop l.goal-index l.goals) l.element ≡ selection_told l.goals l.element
