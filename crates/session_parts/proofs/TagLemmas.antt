-- Elements by their tags.
use Rattle.std.proofs.Common.{◌≡◌, ℕ, ◌<◌, ◌==◌, false, cond, List, [], ◌∷◌, Some, None, refl, ap, ◌∙◌, arith}
use Rattle.std.proofs.lemmas.Bool.Decides.{nat_tests}
use Rattle.soar_wm.specs.declared.element.Element.{Element}
use Rattle.soar_wm.specs.WorkingMemory.{IsGiven, element_of}

-- no element has a tag beyond the last that was given
pub none_beyond : (tag last : ℕ) (elements : List Element) → IsGiven last elements → last < tag → element_of tag elements ≡ None
none_beyond tag last [] given beyond = refl
none_beyond tag last (e ∷ elements) given beyond =
    let other : (e.tag == tag) ≡ false = grind (arith, nat_tests, given.1) in
    ap (λ b. cond b (Some e) (element_of tag elements)) other ∙ none_beyond tag last elements given.2 beyond
