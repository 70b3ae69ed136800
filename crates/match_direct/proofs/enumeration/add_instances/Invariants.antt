use Rattle.std.proofs.Common.{◌≡◌, ◌++◌, map}
use Rattle.defs_match.specs.Conflict.{instance_of}
use Rattle.match_direct.proofs.enumeration.add_instances.Given as goal

abbrev pub invariant-rows : goal.invariant-rows
invariant-rows l = l.out ≡ l.initial.out ++ map (instance_of l.rule.number) l.yielded
