use Rattle.std.proofs.Common.{drop}
use Rattle.level_laws.specs.Labels.{Links, Labels}
use Rattle.level_change.specs.Links.{level_at, is_linked}
use Rattle.level_change.specs.Passing.{SpreadsBut, KeptBut, and_edges}
use Rattle.level_change.proofs.spreading.pass_come.Given as goal

abbrev pub invariant-come : goal.invariant-come
invariant-come l =
    ((left : Links) → SpreadsBut (is_linked l.links) l.goals (level_at l.levels.entries l.initial.told.entries) l.initial.waiting (and_edges l.come left)
    → SpreadsBut (is_linked l.links) l.goals (level_at l.levels.entries l.told.entries) l.waiting (and_edges (drop l.triple-index l.come) left))
    × ((old : Labels) → KeptBut old (level_at l.levels.entries l.initial.told.entries) l.initial.moved → KeptBut old (level_at l.levels.entries l.told.entries) l.moved)
