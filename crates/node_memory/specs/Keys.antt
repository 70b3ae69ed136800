-- The keys of an index of elements by identifier, attribute and value.
use Rattle.std.specs.Prelude.{Bool, true, false, ◌&&◌, not, List, filter, Option, Some, None}
use Rattle.std.specs.Ordering.{is_le}
use Rattle.std.specs.declared.cmp.Ordering.{Ordering}
use Rattle.soar_sym.specs.Equality.{symbol_eq}
use Rattle.soar_sym.specs.declared.symbol.Sym.{Sym}
use Rattle.soar_sym.specs.declared.symbol.Sym.TheVariants.{Ident}
use Rattle.soar_wm.specs.declared.element.Element.{Element}
use Rattle.node_memory.specs.declared.key.ElementKey.{ElementKey}
use Rattle.node_memory.specs.declared.index.Marks.{Marks}
use Rattle.node_memory.specs.contracts.key.ElementKeyOrd.TheImpl as ord

abbrev pub key_cmp : ElementKey → ElementKey → Ordering
key_cmp = (ord.ghosts).cmp

-- a symbol is asked for, and it is another
abbrev pub is_other : Option Sym → Option Sym → Bool
is_other None b = false
is_other (Some a) None = true
is_other (Some a) (Some b) = not (symbol_eq a b)

-- the value that is asked for, where an attribute is
abbrev pub value_beside : Option Sym → Option Sym → Option Sym
value_beside None value = None
value_beside (Some a) value = value

-- the element has the identifier, and the attribute and the value where they are asked for
abbrev pub meets : Sym → Option Sym → Option Sym → Element → Bool
meets id attr value e = symbol_eq id e.id && (not (is_other attr (Some e.attr)) && not (is_other value (Some e.value)))

abbrev pub key_meets : Sym → Option Sym → Option Sym → ElementKey → Bool
key_meets id attr value key = symbol_eq id key.id && (not (is_other attr (Some key.attr)) && not (is_other value (Some key.value)))

-- the symbol that is asked for, or the least of all
abbrev pub or_least : Option Sym → Sym
or_least None = Ident 0 0
or_least (Some a) = a

abbrev pub least_key : Sym → Option Sym → Option Sym → ElementKey
least_key id attr value = record { id = id; attr = or_least attr; value = or_least value; tag = 0 }

-- the entries that are not below a key
abbrev pub entries_from : ElementKey → List (ElementKey × Marks) → List (ElementKey × Marks)
entries_from least es = filter (λ (p : ElementKey × Marks). is_le (key_cmp least p.0)) es

abbrev pub key_of : Element → ElementKey
key_of e = record { id = e.id; attr = e.attr; value = e.value; tag = e.tag }
