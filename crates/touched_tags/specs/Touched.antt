-- Triples that are named.
use Rattle.std.specs.Prelude.{Bool, ◌&&◌, List}
use Rattle.std.specs.List.{list_any}
use Rattle.soar_sym.specs.Equality.{symbol_eq}
use Rattle.soar_sym.specs.declared.symbol.Triple.{Triple}

-- some triple of the list is this one, marks apart
abbrev pub has_plain : List Triple → Triple → Bool
has_plain triples t = list_any (λ u. symbol_eq u.id t.id && (symbol_eq u.attr t.attr && symbol_eq u.value t.value)) triples
