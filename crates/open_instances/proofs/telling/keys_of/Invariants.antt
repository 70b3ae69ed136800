use Rattle.std.proofs.Common.{◌≡◌, ◌||◌, drop}
use Rattle.std.specs.List.{list_any}
use Rattle.match_changes.specs.Told.{key_of}
use Rattle.match_changes.specs.declared.key.MatchKey.{MatchKey}
use Rattle.open_instances.specs.Keys.{alike, key_cmp}
use Rattle.open_instances.specs.Noted as set
use Rattle.open_instances.proofs.telling.keys_of.Given as goal

abbrev pub invariant-instances : goal.invariant-instances
invariant-instances l =
    (q : MatchKey) → (set.contains key_cmp l.keys q || list_any (λ i. alike (key_of i) q) (drop l.instance-index l.instances)) ≡ list_any (λ i. alike (key_of i) q) l.instances
