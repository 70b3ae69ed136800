use Rattle.std.proofs.Common.{◌≡◌, take}
use Rattle.defs_soar.specs.Goals.{goal_ids}
use Rattle.kept_triples.proofs.own.ids_of.Given as goal

abbrev pub invariant-goals : goal.invariant-goals
invariant-goals l = l.ids ≡ goal_ids (take l.goal-index l.goals)
