use Rattle.std.proofs.Common.{◌≡◌, ◌+◌, ◌++◌, drop}
use Rattle.kept_triples.specs.Kept.{level_in_kept}
use Rattle.soar_record.specs.Recorded.{recorded as kept_in}
use Rattle.goal_dependence.specs.Counted.{tags_as_told_from}
use Rattle.goal_dependence.specs.Remembered.{firings_of}
use Rattle.goal_dependence.proofs.finding.Finding.for_each.Given as goal

abbrev pub invariant-goals : goal.invariant-goals
invariant-goals l = record {
  depth : l.depth ≡ l.goal-index + 2;
  found :
      l.found ++ tags_as_told_from (level_in_kept l.self.levels.now) (kept_in l.self.past.now ++ firings_of l.self.recorded.now) l.self.added.now l.self.recorded.now l.depth (drop l.goal-index l.goals)
      ≡ tags_as_told_from (level_in_kept l.self.levels.now) (kept_in l.self.past.now ++ firings_of l.self.recorded.now) l.self.added.now l.self.recorded.now 2 l.goals;
}
