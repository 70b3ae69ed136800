use Rattle.std.proofs.Common.{◌≡◌, ◌||◌}
use Rattle.std.specs.List.{list_any}
use Rattle.match_changes.specs.declared.key.MatchKey.{MatchKey}
use Rattle.open_instances.specs.Keys.{alike, key_cmp}
use Rattle.open_instances.specs.Noted as set
use Rattle.open_instances.proofs.keys.add_keys.Given as goal

abbrev pub invariant-more : goal.invariant-more
invariant-more l = (q : MatchKey) → set.contains key_cmp l.keys q ≡ (list_any (λ k. alike k q) l.yielded || set.contains key_cmp l.initial.keys q)
