use Rattle.std.proofs.Common.{◌≡◌, ◌++◌}
use Rattle.node_memory.specs.Entries.{elements_in}
use Rattle.node_memory.proofs.index.copy_all.Given as goal

abbrev pub invariant-elements : goal.invariant-elements
invariant-elements l = l.out.items ++ elements_in l.key-iterator ≡ elements_in l.by_key.entries
