use Rattle.std.proofs.Common.{◌≡◌, ◌++◌}
use Rattle.std.specs.Map.{values_of}
use Rattle.open_instances.proofs.reading.unfired.Given as goal

abbrev pub invariant-free : goal.invariant-free
invariant-free l = l.unfired ++ l.instance-iterator ≡ values_of l.free.entries
