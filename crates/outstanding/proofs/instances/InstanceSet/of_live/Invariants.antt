use Rattle.std.proofs.Common.{◌≡◌, ◌||◌, map}
use Rattle.defs_match.specs.declared.instance.Instance.{Instance}
use Rattle.defs_soar.specs.Pending.{is_listed}
use Rattle.live_firings.specs.Living.{live_seen}
use Rattle.outstanding.specs.Keys.{has_key}
use Rattle.outstanding.proofs.instances.InstanceSet.of_live.Given as goal

abbrev pub invariant-live : goal.invariant-live
invariant-live l =
    (i : Instance) → (has_key l.set i || is_listed (map (λ f. f.instance) (map live_seen l.firing-iterator)) i)
    ≡ is_listed (map (λ f. f.instance) (map live_seen l.live.list)) i
