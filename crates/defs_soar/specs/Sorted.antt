-- Symbols and triples in their order, each once.
use Rattle.std.specs.Prelude.{Bool, List, [], ◌∷◌, if◌then◌else◌}
use Rattle.std.specs.List.{list_any}
use Rattle.std.specs.Ordering.{is_lt}
use Rattle.soar_sym.specs.Equality.{symbol_eq}
use Rattle.soar_sym.specs.Order.{symbol_cmp, triple_cmp}
use Rattle.soar_sym.specs.Words.{Texts}
use Rattle.soar_sym.specs.declared.symbol.Sym.{Sym}
use Rattle.soar_sym.specs.declared.symbol.Triple.{Triple}

abbrev pub has_symbol : List Sym → Sym → Bool
has_symbol symbols s = list_any (symbol_eq s) symbols

-- one symbol more, at its place, where it is new
abbrev pub with_symbol : Texts → List Sym → Sym → List Sym
with_symbol words [] s = s ∷ []
with_symbol words (t ∷ symbols) s =
    if symbol_eq s t then t ∷ symbols else if is_lt (symbol_cmp words s t) then s ∷ t ∷ symbols else t ∷ with_symbol words symbols s

-- one triple more, at its place, where it is new
abbrev pub with_triple_at : Texts → List Triple → Triple → List Triple
with_triple_at words [] t = t ∷ []
with_triple_at words (u ∷ triples) t =
    if is_lt (triple_cmp words t u) then t ∷ u ∷ triples else if is_lt (triple_cmp words u t) then u ∷ with_triple_at words triples t else u ∷ triples

-- triples in their order, each once
abbrev pub in_order : Texts → List Triple → List Triple
in_order words [] = []
in_order words (t ∷ triples) = with_triple_at words (in_order words triples) t
