use Rattle.std.proofs.Common.{◌≡◌, ◌++◌, take}
use Rattle.node_memory.specs.Changes.{join_one}
use Rattle.join_parts.proofs.join.add_by_one.Given as goal

abbrev pub invariant-rows : goal.invariant-rows
invariant-rows l = l.out.items ≡ l.initial.out.items ++ join_one l.p l.element (take l.row-index l.rows)
