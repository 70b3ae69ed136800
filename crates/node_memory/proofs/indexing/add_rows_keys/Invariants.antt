use Rattle.std.proofs.Common.{◌↔◌, ◌⊎◌, map, drop}
use Rattle.defs_match.specs.Laws.{IsIn}
use Rattle.node_memory.specs.Symbols.{SymbolKeyOf}
use Rattle.node_memory.specs.Memories.{key_for}
use Rattle.node_memory.proofs.indexing.add_rows_keys.Given as goal

abbrev pub invariant-rows : goal.invariant-rows
invariant-rows l = (k : SymbolKeyOf) → (IsIn k (map (key_for l.joined) (drop l.row-index l.rows)) ⊎ IsIn k l.index) ↔ (IsIn k (map (key_for l.joined) l.rows) ⊎ IsIn k l.initial.index)
