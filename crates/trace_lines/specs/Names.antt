-- Names of operators.
use Rattle.std.specs.Prelude.{Bool, ◌&&◌, not, Option, Some, None, if◌then◌else◌}
use Rattle.std.specs.Ordering.{is_lt}
use Rattle.soar_sym.specs.Equality.{symbol_eq}
use Rattle.soar_sym.specs.Order.{symbol_cmp}
use Rattle.soar_sym.specs.Words.{Texts, IsKnown}
use Rattle.soar_sym.specs.declared.symbol.Sym.{Sym}
use Rattle.soar_wm.specs.declared.element.Element.{Element}
use Rattle.defs_soar.specs.Architecture.{name_word}

-- the value of an element is of the table
abbrev pub IsValueKnown : Texts → Element → Type 0
IsValueKnown words e = IsKnown words e.value

-- the value of an element is a name of the operator
abbrev pub is_name_of : Sym → Element → Bool
is_name_of operator e = symbol_eq e.id operator && (symbol_eq e.attr name_word && not e.accept)

-- the lesser of a symbol and one that may be there
abbrev pub lesser : Texts → Option Sym → Sym → Sym
lesser words None s = s
lesser words (Some t) s = if is_lt (symbol_cmp words s t) then s else t
