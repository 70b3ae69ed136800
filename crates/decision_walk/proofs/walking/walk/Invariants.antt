use Rattle.std.proofs.Common.{◌≡◌, ◌<◌, length, None}
use Rattle.defs_soar.specs.Walk.{walked}
use Rattle.decision_walk.specs.Steps.{walked_below}
use Rattle.soar_decide.specs.Outcomes.{view_seen}
use Rattle.decision_walk.proofs.walking.walk.Given as goal

abbrev pub invariant-depths : goal.invariant-depths
invariant-depths l = record {
  there : l.above < length l.goals;
  as_many : length l.goals ≡ length l.initial.goals;
  same : walked_below (view_seen l.view) l.above l.goals ≡ walked (view_seen l.view) None l.initial.goals;
}
