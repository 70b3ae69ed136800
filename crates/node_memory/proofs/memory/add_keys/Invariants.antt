use Rattle.std.proofs.Common.{◌↔◌, ◌⊎◌, drop}
use Rattle.defs_match.specs.Laws.{IsIn}
use Rattle.node_memory.specs.Symbols.{SymbolKeyOf}
use Rattle.node_memory.specs.Memories.{keys_for}
use Rattle.node_memory.proofs.memory.add_keys.Given as goal

abbrev pub invariant-all : goal.invariant-all
invariant-all l = (k : SymbolKeyOf) → (IsIn k (keys_for (drop l.joined-index l.all) l.row) ⊎ IsIn k l.index) ↔ (IsIn k (keys_for l.all l.row) ⊎ IsIn k l.initial.index)
