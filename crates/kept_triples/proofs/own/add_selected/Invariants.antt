use Rattle.std.proofs.Common.{◌≡◌, ◌++◌, flat_map, take}
use Rattle.defs_soar.specs.Goals.{selected_element}
use Rattle.kept_triples.proofs.own.add_selected.Given as goal

abbrev pub invariant-goals : goal.invariant-goals
invariant-goals l = l.out ≡ l.initial.out ++ flat_map selected_element (take l.goal-index l.goals)
