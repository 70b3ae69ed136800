use Rattle.std.proofs.Common.{◌≡◌, ◌++◌, take}
use Rattle.std.specs.Map.{keys_of}
use Rattle.node_memory.specs.Changes.{below}
use Rattle.join_parts.proofs.serve.add_all_below.Given as goal

abbrev pub invariant-fronts : goal.invariant-fronts
invariant-fronts l = l.out.items ≡ l.initial.out.items ++ below (keys_of l.rows.entries) (take l.front-index l.fronts)
