-- Which elements stay, and which triples come.
use Rattle.std.specs.Prelude.{List, filter}
use Rattle.soar_sym.specs.Words.{Texts}
use Rattle.soar_sym.specs.declared.symbol.Triple.{Triple}
use Rattle.soar_wm.specs.declared.element.Element.{Element}
use Rattle.soar_wm.specs.WorkingMemory.{WorkingMemory}
use Rattle.defs_soar.specs.declared.goal.Goal.{Goal}
use Rattle.defs_soar.specs.Settling.{new_triples, stays}
use Rattle.defs_soar.specs.Sorted.{in_order}

-- the elements that keep their tags
abbrev pub staying : List Goal → List Triple → WorkingMemory → List Element
staying goals kept m = filter (stays goals kept) m.elements

-- the triples that get the next tags, in turn
abbrev pub coming : Texts → List Goal → List Triple → WorkingMemory → List Triple
coming words goals kept m = in_order words (new_triples (staying goals kept m) kept)
