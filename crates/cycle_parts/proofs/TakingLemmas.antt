-- Elements that a matcher takes in: at each turn the next is new.
use Rattle.std.proofs.Common.{◌≡◌, ◌<◌, ℕ, ◌+◌, List, ◌∷◌, length, drop, get_or, refl, sym, ap, subst, ◌∙◌, add-one, drop-cons}
use Rattle.soar_wm.specs.declared.element.Element.{Element}
use Rattle.defs_match.specs.Contents.{IsNewElement, with_element}
use Rattle.matching_laws.specs.Telling.{AreInsertable, with_each}

next_of : (elements : List Element) (i : ℕ) (none : Element) → i < length elements → drop i elements ≡ get_or elements i none ∷ drop (i + 1) elements
next_of elements i none within = drop-cons elements i none within ∙ rw (add-one i) refl

pub next_is_new : (held elements : List Element) (i : ℕ) (none : Element) → i < length elements → AreInsertable held (drop i elements)
    → IsNewElement held (get_or elements i none) × AreInsertable (with_element held (get_or elements i none)) (drop (i + 1) elements)
next_is_new held elements i none within insertable = subst (AreInsertable held) (next_of elements i none within) insertable

pub next_joins : (held elements : List Element) (i : ℕ) (none : Element) → i < length elements
    → with_each (with_element held (get_or elements i none)) (drop (i + 1) elements) ≡ with_each held (drop i elements)
next_joins held elements i none within = ap (with_each held) (sym (next_of elements i none within))
