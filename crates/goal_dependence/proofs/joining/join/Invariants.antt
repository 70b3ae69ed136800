use Rattle.std.proofs.Common.{◌≡◌, ◌++◌}
use Rattle.soar_record.specs.Recorded.{recorded as kept_in}
use Rattle.goal_dependence.specs.Remembered.{firings_of, CanJoin}
use Rattle.goal_dependence.proofs.joining.join.Given as goal

abbrev pub invariant-recorded : goal.invariant-recorded
invariant-recorded l = record {
  kept : kept_in l.kept ++ firings_of l.firing-iterator.rest.items ≡ kept_in l.initial.kept ++ firings_of l.fn.recorded;
  new : CanJoin (kept_in l.kept) (firings_of l.firing-iterator.rest.items);
}
