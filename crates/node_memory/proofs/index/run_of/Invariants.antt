use Rattle.std.proofs.Common.{◌≡◌, ◌++◌}
use Rattle.node_memory.specs.Entries.{elements_in}
use Rattle.node_memory.specs.Keys.{key_meets, entries_from, least_key}
use Rattle.node_memory.specs.Runs.{front_while}
use Rattle.node_memory.proofs.index.run_of.Given as goal

abbrev pub invariant-run : goal.invariant-run
invariant-run l =
    l.out.items ++ elements_in (front_while (λ e. key_meets l.id l.attr l.value e.0) l.key-iterator)
    ≡ elements_in (front_while (λ e. key_meets l.id l.attr l.value e.0) (entries_from (least_key l.id l.attr l.value) l.by_key.entries))
