use Rattle.std.proofs.Common.{◌≡◌, ◌||◌}
use Rattle.std.specs.HashMap as table
use Rattle.std.specs.List.{list_any}
use Rattle.match_changes.specs.declared.key.MatchKey.{MatchKey}
use Rattle.open_instances.specs.Keys.{alike, key_cmp}
use Rattle.open_instances.specs.Noted as set
use Rattle.open_instances.proofs.telling.add_counted.Given as goal

abbrev pub invariant-counts : goal.invariant-counts
invariant-counts l =
    (q : MatchKey) → (set.contains key_cmp l.keys q || list_any (λ k. alike k q) l.key-iterator) ≡ (set.contains key_cmp l.initial.keys q || list_any (λ k. alike k q) (table.keys l.counts))
