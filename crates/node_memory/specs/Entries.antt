-- Elements as entries of a map: under a key stands what the element has beside it.
use Rattle.std.specs.Prelude.{List, map}
use Rattle.soar_wm.specs.declared.element.Element.{Element}
use Rattle.node_memory.specs.declared.key.ElementKey.{ElementKey}
use Rattle.node_memory.specs.declared.index.Marks.{Marks}

abbrev pub marks_of : Element → Marks
marks_of e = record { accept = e.accept; of_state = e.of_state }

-- the element of an entry
abbrev pub element_at : ElementKey × Marks → Element
element_at p = record { tag = p.0.tag; id = p.0.id; attr = p.0.attr; value = p.0.value; accept = p.1.accept; of_state = p.1.of_state }

-- the elements of a map
abbrev pub elements_in : List (ElementKey × Marks) → List Element
elements_in es = map element_at es
