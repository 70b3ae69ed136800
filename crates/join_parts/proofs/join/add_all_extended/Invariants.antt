use Rattle.std.proofs.Common.{◌≡◌, ◌++◌, take}
use Rattle.node_memory.specs.Changes.{join}
use Rattle.join_parts.proofs.join.add_all_extended.Given as goal

abbrev pub invariant-rows : goal.invariant-rows
invariant-rows l = l.out.items ≡ l.initial.out.items ++ join l.p l.index (take l.row-index l.rows)
