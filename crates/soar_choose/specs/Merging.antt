-- Two lists of symbols in their order made one. No public clause cites this module.
use Rattle.std.specs.Prelude.{List, [], ◌∷◌, ◌++◌}
use Rattle.std.specs.Ordering.{match_ordering}
use Rattle.soar_sym.specs.Order.{symbol_cmp}
use Rattle.soar_sym.specs.Words.{Texts}
use Rattle.soar_sym.specs.declared.symbol.Sym.{Sym}

-- those that come before a symbol
abbrev pub moved : Texts → Sym → List Sym → List Sym
moved words s [] = []
moved words s (t ∷ symbols) = match_ordering (symbol_cmp words s t) [] (moved words s symbols) (t ∷ moved words s symbols)

-- those that come after it
abbrev pub left : Texts → Sym → List Sym → List Sym
left words s [] = []
left words s (t ∷ symbols) = match_ordering (symbol_cmp words s t) (t ∷ symbols) (left words s symbols) (left words s symbols)

-- the symbols of both
abbrev pub merged : Texts → List Sym → List Sym → List Sym
merged words [] b = b
merged words (s ∷ a) b = moved words s b ++ s ∷ merged words a (left words s b)
