use Rattle.std.proofs.Common.{◌≢◌, ◌↔◌, sym, subst, List}
use Rattle.std.specs.Map.{keys_of}
use Rattle.defs_match.specs.Laws.{IsIn}
use Rattle.node_memory.specs.declared.symbols.SymbolKey.{SymbolKey}
use Rattle.node_memory.proofs.SymbolLemmas.{in_removed}
use Rattle.node_memory.proofs.symbols.SymbolIndex.remove.Goals as goal

pub returns : goal.returns
returns c x =
    subst (λ (ks : List SymbolKey). IsIn x (keys_of c.remove.new.self.entries) ↔ (IsIn x ks × (c.args.key.now ≢ x))) c.self.view_is
    (subst (λ es. IsIn x (keys_of es) ↔ (IsIn x (keys_of c.self.inside.keys.entries) × (c.args.key.now ≢ x))) (sym c.remove.ensures.entries) (in_removed c.self.inside.keys.entries c.args.key.now x c.len-count.ensures.ordered))
