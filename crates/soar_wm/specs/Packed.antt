-- An element of symbols, a tag and marks.
use Rattle.std.specs.Prelude.{ℕ, Bool, true, false}
use Rattle.soar_sym.specs.declared.symbol.Sym.{Sym}
use Rattle.soar_wm.specs.declared.element.Element.{Element}
use Rattle.soar_wm.specs.declared.packed.Marks.{Marks}
use Rattle.soar_wm.specs.declared.packed.Marks.TheVariants.{Neither, Accept, OfState, Both}

abbrev pub is_accept : Marks → Bool
is_accept Neither = false
is_accept Accept = true
is_accept OfState = false
is_accept Both = true

abbrev pub is_of_state : Marks → Bool
is_of_state Neither = false
is_of_state Accept = false
is_of_state OfState = true
is_of_state Both = true

abbrev pub element_with : Sym → Sym → Sym → ℕ → Marks → Element
element_with id attr value tag marks = record { id = id; attr = attr; value = value; tag = tag; accept = is_accept marks; of_state = is_of_state marks }
