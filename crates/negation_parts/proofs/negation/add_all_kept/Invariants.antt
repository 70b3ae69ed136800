use Rattle.std.proofs.Common.{◌≡◌, ◌++◌, take}
use Rattle.node_memory.specs.Memories.{rows_in}
use Rattle.negation_parts.specs.Negations.{kept}
use Rattle.negation_parts.proofs.negation.add_all_kept.Given as goal

abbrev pub invariant-rows : goal.invariant-rows
invariant-rows l = l.out.items ≡ l.initial.out.items ++ kept (rows_in l.inner.entries) (take l.row-index l.rows)
