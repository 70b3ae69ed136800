use Rattle.std.proofs.Common.{◌≡◌, ◌↔◌, drop}
use Rattle.defs_match.specs.Laws.{IsIn}
use Rattle.node_memory.specs.Symbols.{SymbolKeyOf}
use Rattle.node_memory.specs.Memories.{keys_for}
use Rattle.node_memory.proofs.memory.remove_keys.Given as goal

abbrev pub invariant-all : goal.invariant-all
invariant-all l =
    (l.tags ≡ l.initial.tags)
    × ((k : SymbolKeyOf) → (IsIn k l.index × (IsIn k (keys_for (drop l.joined-index l.all) (record { tags = l.initial.tags; bindings = l.bindings })) → ⊥))
    ↔ (IsIn k l.initial.index × (IsIn k (keys_for l.all (record { tags = l.initial.tags; bindings = l.bindings })) → ⊥)))
