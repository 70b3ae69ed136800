use Rattle.std.proofs.Common.{◌≡◌, ◌++◌, filter}
use Rattle.std.specs.Map.{keys_of}
use Rattle.node_memory.specs.Changes.{begins, is_below}
use Rattle.node_memory.specs.Memories.{entries_not_below}
use Rattle.node_memory.specs.Runs.{front_while}
use Rattle.join_parts.proofs.serve.add_below.Given as goal

abbrev pub invariant-run : goal.invariant-run
invariant-run l =
    l.out.items ++ filter (is_below l.front) (keys_of (front_while (λ e. begins l.front e.0) l.tags-iterator))
    ≡ l.initial.out.items ++ filter (is_below l.front) (keys_of (front_while (λ e. begins l.front e.0) (entries_not_below l.front l.rows.entries)))
