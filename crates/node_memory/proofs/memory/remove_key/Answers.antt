use Rattle.std.proofs.Common.{◌≢◌, ◌↔◌, subst}
use Rattle.defs_match.specs.Laws.{IsIn}
use Rattle.node_memory.specs.declared.symbols.SymbolKey.{SymbolKey}
use Rattle.node_memory.proofs.memory.remove_key.Goals as goal

pub returns-clause-index : goal.returns-clause-index
returns-clause-index c k = subst (λ (h : SymbolKey). IsIn k c.remove.new.self ↔ (IsIn k c.args.index.now × (h ≢ k))) c.key_of-key.ensures (c.remove.ensures k)
