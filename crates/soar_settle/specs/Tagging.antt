-- What the steps of tagging owe one another. Of this the laws on matchers cite `without_each`, and no clause of this crate the rest.
use Rattle.std.specs.Prelude.{◌≡◌, ℕ, suc, List, [], ◌∷◌, ◌++◌, None}
use Rattle.soar_sym.specs.Words.{Texts, IsKnown}
use Rattle.soar_sym.specs.declared.symbol.Triple.{Triple}
use Rattle.soar_wm.specs.declared.element.Element.{Element}
use Rattle.soar_wm.specs.WorkingMemory.{tag_of, without_tag}
use Rattle.defs_soar.specs.declared.goal.Goal.{Goal}
use Rattle.defs_soar.specs.Settling.{element_of_triple}

abbrev pub IsTripleKnown : Texts → Triple → Type 0
IsTripleKnown words t = IsKnown words t.id × IsKnown words t.attr × IsKnown words t.value

-- the elements without those of the tags of others, one after the other
abbrev pub without_each : List Element → List Element → List Element
without_each elements [] = elements
without_each elements (e ∷ others) = without_each (without_tag e.tag elements) others

-- none of the triples is there when its turn comes
abbrev pub AreAddable : List Goal → ℕ → List Element → List Triple → Type 0
AreAddable goals last elements [] = Unit {0}
AreAddable goals last elements (t ∷ triples) =
    (tag_of t elements ≡ None) × AreAddable goals (suc last) (elements ++ element_of_triple goals (suc last) t ∷ []) triples
