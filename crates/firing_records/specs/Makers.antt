-- The maker of an element, found row by row. No public clause cites this.
use Rattle.std.specs.Prelude.{ℕ, min, List, [], ◌∷◌, Option, Some, None, if◌then◌else◌}
use Rattle.soar_wm.specs.declared.element.Element.{Element}
use Rattle.defs_soar.specs.declared.preference.Preference.{Preference}
use Rattle.defs_soar.specs.Uses.{makes_element}

abbrev pub lesser : Option ℕ → ℕ → ℕ
lesser None n = n
lesser (Some m) n = min m n

-- the least firing of those found before and of the rows that make the element
abbrev pub least_maker : Option ℕ → Element → List Preference → Option ℕ
least_maker found e [] = found
least_maker found e (row ∷ rows) = least_maker (if makes_element e row then Some (lesser found row.firing) else found) e rows
