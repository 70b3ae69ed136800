-- Which elements stay, told place by place. No public clause cites this module.
use Rattle.std.specs.Prelude.{◌≡◌, ℕ, ◌<◌, Bool, true, false, ◌&&◌, not, List, length, filter, get_or}
use Rattle.std.specs.List.{list_any}
use Rattle.soar_sym.specs.Equality.{mark_eq}
use Rattle.soar_sym.specs.declared.symbol.Sym.TheVariants.{Ident}
use Rattle.soar_sym.specs.declared.symbol.Triple.{Triple}
use Rattle.soar_wm.specs.declared.element.Element.{Element}
use Rattle.soar_wm.specs.WorkingMemory.{has_triple}
use Rattle.defs_soar.specs.declared.goal.Goal.{Goal}
use Rattle.defs_soar.specs.Goals.{is_goal}

-- what stands past the end
abbrev pub no_element : Element
no_element = record { tag = 0; id = Ident 0 0; attr = Ident 0 0; value = Ident 0 0; accept = false; of_state = false }

-- the element at a place has the tag
pub record HasTagAt (tag : ℕ) (elements : List Element) (at : ℕ) : Type 0 where
  pub within : at < length elements
  pub tag_is : (get_or elements at no_element).tag ≡ tag

-- the element at a place has the triple
pub record HasTripleAt (t : Triple) (elements : List Element) (at : ℕ) : Type 0 where
  pub within : at < length elements
  pub has : has_triple t (get_or elements at no_element) ≡ true

-- the flag of an element is that of its identifier
abbrev pub is_flagged : List Goal → Element → Bool
is_flagged goals e = mark_eq e.of_state (is_goal goals e.id)

-- the element at a place has the triple and the right flag
pub record StandsAt (goals : List Goal) (t : Triple) (elements : List Element) (at : ℕ) : Type 0 where
  pub has_is : HasTripleAt t elements at
  pub flagged : is_flagged goals (get_or elements at no_element) ≡ true

-- an element with the right flag has the triple
abbrev pub stands : List Goal → List Element → Triple → Bool
stands goals elements t = list_any (λ e. has_triple t e && is_flagged goals e) elements

-- those of these triples that no element with the right flag has
abbrev pub unmet : List Goal → List Element → List Triple → List Triple
unmet goals elements triples = filter (λ t. not (stands goals elements t)) triples
