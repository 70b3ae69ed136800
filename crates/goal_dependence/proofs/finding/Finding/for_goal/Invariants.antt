use Rattle.std.proofs.Common.{◌≡◌, ◌++◌, flat_map, take}
use Rattle.kept_triples.specs.Kept.{level_in_kept}
use Rattle.soar_record.specs.Recorded.{recorded as kept_in}
use Rattle.goal_dependence.specs.Counted.{tags_by}
use Rattle.goal_dependence.specs.Remembered.{firings_of}
use Rattle.goal_dependence.proofs.finding.Finding.for_goal.Given as goal

abbrev pub invariant-recorded : goal.invariant-recorded
invariant-recorded l =
    l.tags
    ≡ flat_map (tags_by (level_in_kept l.self.levels.now) (kept_in l.self.past.now ++ firings_of l.self.recorded.now) l.self.added.now l.goal l.depth) (take l.at l.self.recorded.now)
