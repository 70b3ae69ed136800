use Rattle.std.proofs.Common.{◌≡◌, ◌++◌}
use Rattle.node_memory.specs.Memories.{rows_in}
use Rattle.node_memory.proofs.indexing.all_rows.Given as goal

abbrev pub invariant-rows : goal.invariant-rows
invariant-rows l = l.out.items ++ rows_in l.tags-iterator ≡ rows_in l.rows.entries
