use Rattle.std.proofs.Common.{◌+◌, ◌*◌, length}
use Rattle.level_laws.specs.Labels.{Labels}
use Rattle.level_graph.specs.Marks.{weight_of}
use Rattle.level_graph.specs.Spreading.{Spreads}
use Rattle.level_change.specs.Links.{level_at, is_linked}
use Rattle.level_change.specs.Passing.{KeptBut, totals}
use Rattle.level_change.proofs.spreading.spread.Given as goal

abbrev pub invariant-waiting : goal.invariant-waiting
invariant-waiting l =
    (Spreads (is_linked l.links) l.goals (level_at l.levels.entries l.initial.told.entries) l.initial.waiting → Spreads (is_linked l.links) l.goals (level_at l.levels.entries l.told.entries) l.waiting)
    × ((old : Labels) → KeptBut old (level_at l.levels.entries l.initial.told.entries) l.initial.moved → KeptBut old (level_at l.levels.entries l.told.entries) l.moved)

abbrev pub decreases-waiting : goal.decreases-waiting
decreases-waiting l = 2 * totals weight_of (level_at l.levels.entries l.told.entries) l.links + length l.waiting
