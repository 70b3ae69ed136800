use Rattle.std.proofs.Common.{◌≡◌, map, drop}
use Rattle.pending_work.specs.Active.{depth_at, least_from}
use Rattle.pending_work.proofs.active.least_of_instances.Given as goal

abbrev pub invariant-instances : goal.invariant-instances
invariant-instances l =
    least_from l.least (map (depth_at l.goals l.memory.elements) (drop l.instance-index l.instances))
    ≡ least_from l.initial.least (map (depth_at l.goals l.memory.elements) l.instances)
