use Rattle.std.proofs.Common.{◌≡◌, ◌==◌, filter}
use Rattle.pending_work.specs.Active.{depth_at}
use Rattle.pending_work.proofs.active.instances_at.Given as goal

abbrev pub invariant-instances : goal.invariant-instances
invariant-instances l = l.at ≡ filter (λ i. depth_at l.goals l.memory.elements i == l.level) l.yielded
