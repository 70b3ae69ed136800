use Rattle.std.proofs.Common.{◌≡◌, ◌++◌, map}
use Rattle.defs_match.specs.Conflict.{instance_of}
use Rattle.node_memory.specs.Memories.{rows_in}
use Rattle.node_table.proofs.instances.all_tokens.Given as goal

abbrev pub invariant-rows : goal.invariant-rows
invariant-rows l = l.out ++ map (instance_of 0) (rows_in l.tags-iterator) ≡ map (instance_of 0) (rows_in l.rows.entries)
