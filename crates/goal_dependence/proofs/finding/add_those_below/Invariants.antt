use Rattle.std.proofs.Common.{◌≡◌, ◌++◌, map, filter, take}
use Rattle.kept_triples.specs.Kept.{level_in_kept}
use Rattle.goal_dependence.specs.Told.{was_told_below}
use Rattle.goal_dependence.proofs.finding.add_those_below.Given as goal

abbrev pub invariant-elements : goal.invariant-elements
invariant-elements l = l.tags ≡ l.initial.tags ++ map (λ e. e.tag) (filter (λ e. was_told_below (level_in_kept l.levels) l.depth e.id) (take l.element-index l.elements))
