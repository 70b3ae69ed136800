-- What the firings of some numbers used.
use Rattle.std.specs.Prelude.{ℕ, List, [], ◌∷◌, flat_map}
use Rattle.soar_wm.specs.declared.element.Element.{Element}
use Rattle.defs_soar.specs.declared.firing.Used.{Used}
use Rattle.defs_soar.specs.Explanation.{architecture_of, at_its_tag, firing_of, item_of, selection_of, TagNaming, upper_of, with_naming}
use Rattle.defs_soar.specs.History.{FiringOf}
use Rattle.chunk_back.specs.declared.named.NamedWay.{NamedWay}
use Rattle.chunk_back.specs.declared.named.NamedWay.TheVariants.{Item, Selected}
use Rattle.chunk_back.specs.declared.parts.Way.{Way}
use Rattle.chunk_back.specs.declared.parts.Way.TheVariants.{Upper, Architecture}

-- how the firing of a number used its elements
abbrev pub uses_at : List FiringOf → ℕ → List Used
uses_at firings number = flat_map (λ f. f.used) (firing_of firings number)

abbrev pub uses_of : List FiringOf → List ℕ → List Used
uses_of firings numbers = flat_map (λ f. f.used) (flat_map (firing_of firings) numbers)

abbrev pub elements_of : Way → Used → List Element
elements_of Upper u = upper_of u
elements_of Architecture u = architecture_of u

-- elements more, each at the place of its tag, where that is new
abbrev pub with_elements : List Element → List Element → List Element
with_elements [] others = others
with_elements (e ∷ elements) others = at_its_tag e (with_elements elements others)

abbrev pub namings_of : NamedWay → Used → List TagNaming
namings_of Item u = item_of u
namings_of Selected u = selection_of u

-- namings more, each at its place, where it is new
abbrev pub with_namings : List TagNaming → List TagNaming → List TagNaming
with_namings [] others = others
with_namings (n ∷ namings) others = with_naming n (with_namings namings others)
