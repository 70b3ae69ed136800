use Rattle.std.proofs.Common.{◌≡◌, ◌++◌, take}
use Rattle.node_memory.specs.Changes.{tags_of}
use Rattle.join_parts.proofs.serve.add_tags.Given as goal

abbrev pub invariant-rows : goal.invariant-rows
invariant-rows l = l.out.items ≡ l.initial.out.items ++ tags_of (take l.row-index l.rows)
