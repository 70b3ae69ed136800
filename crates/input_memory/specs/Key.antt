-- By what triples are found. No public clause cites this.
use Rattle.std.specs.Prelude.{◌==◌, Bool, ◌&&◌}
use Rattle.std.specs.Ordering.{is_eq, int_eq}
use Rattle.soar_sym.specs.Equality.{symbol_eq}
use Rattle.soar_sym.specs.declared.symbol.Triple.{Triple}
use Rattle.defs_soar.specs.Values.{triple_eq}
use Rattle.packed_triples.specs.Packed.{kind_of, number_of}
use Rattle.input_memory.specs.Order.{place_cmp}
use Rattle.input_memory.specs.Place.{edge, kind_number, place_of, IsTold, IsToldSymbol}
use Rattle.input_memory.specs.declared.key.Key.{Key}
use Rattle.input_memory.specs.declared.key.Key.TheVariants.{Id, Whole}
use Rattle.input_memory.specs.declared.place.Place.{Place}

-- the triple is found by the key
abbrev pub is_of : Key → Triple → Bool
is_of (Id id) t = symbol_eq t.id id
is_of (Whole triple) t = triple_eq t triple

-- the place from which on the triples of the key stand
abbrev pub lowest : Key → Place
lowest (Id id) = edge id 0
lowest (Whole triple) = place_of triple

-- the place is that of a triple of the key
abbrev pub is_under : Key → Place → Bool
is_under (Id id) p = int_eq p.id (number_of id) && (p.id_kind == kind_number (kind_of id))
is_under (Whole triple) p = is_eq (place_cmp p (place_of triple))

-- its numbers tell the key
abbrev pub IsToldKey : Key → Type 0
IsToldKey (Id id) = IsToldSymbol id
IsToldKey (Whole triple) = IsTold triple
