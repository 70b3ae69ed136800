-- What a memory holds.
use Rattle.std.specs.Prelude.{◌↔◌, List, [], ◌∷◌, Option, Some, None}
use Rattle.defs_match.specs.Laws.{IsIn}
use Rattle.defs_match.specs.Rows.{Row}
use Rattle.soar_wm.specs.declared.element.Element.{Element}
use Rattle.node_memory.specs.Memories.{Found, has}

abbrev pub listed : Option Element → List Element
listed None = []
listed (Some e) = e ∷ []

-- the map finds exactly these rows
abbrev pub Holds : Found → List Row → Type 0
Holds found rows = (x : Row) → has found x ↔ IsIn x rows

-- the two lists have the same elements
abbrev pub SameElements : List Element → List Element → Type 0
SameElements v w = (e : Element) → IsIn e v ↔ IsIn e w
