use Rattle.std.proofs.Common.{◌≡◌, ◌||◌, drop}
use Rattle.defs_match.specs.declared.instance.Instance.{Instance}
use Rattle.defs_soar.specs.Pending.{is_listed}
use Rattle.outstanding.specs.Keys.{has_key}
use Rattle.outstanding.proofs.instances.InstanceSet.of.Given as goal

abbrev pub invariant-instances : goal.invariant-instances
invariant-instances l = (i : Instance) → (has_key l.set i || is_listed (drop l.instance-index l.instances) i) ≡ is_listed l.instances i
