-- What a set has, by the order of its keys.
use Rattle.std.proofs.Common.{◌≡◌, Bool, true, false, cond, ◌||◌, List, ap, ap₂, refl, sym, ◌∙◌}
use Rattle.std.specs.List.{list_any}
use Rattle.std.specs.Ordering.{is_eq}
use Rattle.soar_sym.specs.Equality.{symbol_eq}
use Rattle.soar_sym.specs.declared.symbol.Sym.{Sym}
use Rattle.defs_soar.specs.Sorted.{has_symbol}
use Rattle.level_graph.proofs.SymbolLemmas.{symbol_turned}
use Rattle.level_graph.proofs.KeyLemmas.{sym_cmp, cmp_same}

-- whether the set's order finds a key
abbrev pub finds : List Sym → Sym → Bool
finds keys s = list_any (λ t. is_eq (sym_cmp s t)) keys

pub found_same : (keys : List Sym) (s : Sym) → finds keys s ≡ has_symbol keys s
found_same keys s = ap (λ p. list_any p keys) (λ i t. cmp_same s t i)

pub added_same : (old new : List Sym) (symbol : Sym) → ((q : Sym) → finds new q ≡ cond (is_eq (sym_cmp symbol q)) true (finds old q))
    → (s : Sym) → has_symbol new s ≡ (symbol_eq s symbol || has_symbol old s)
added_same old new symbol up s =
    sym (found_same new s) ∙ up s
    ∙ ap₂ (λ a b. cond a true b) (cmp_same symbol s ∙ symbol_turned symbol s) (found_same old s)
    ∙ by (symbol_eq s symbol) (has_symbol old s)
  where
    by : (a b : Bool) → cond a true b ≡ (a || b)
    by true b = refl
    by false b = refl
