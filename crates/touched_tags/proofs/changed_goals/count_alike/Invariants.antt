use Rattle.std.proofs.Common.{◌≡◌, ◌≤◌, length, take}
use Rattle.touched_tags.proofs.changed_goals.count_alike.Given as goal

abbrev pub invariant-symbols : goal.invariant-symbols
invariant-symbols l = record {
  within : l.at ≤ length l.b;
  alike : take l.at l.a ≡ take l.at l.b;
}
