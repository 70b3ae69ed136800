-- The tag of the marked element, by its triple.
use Rattle.std.proofs.Common.{◌≡◌, ℕ, Bool, true, false, ◌&&◌, cond, List, [], ◌∷◌, Option, Some, None, refl, ap, ◌∙◌}
use Rattle.soar_sym.specs.Equality.{symbol_eq, mark_eq}
use Rattle.soar_sym.specs.declared.symbol.Sym.{Sym}
use Rattle.soar_wm.specs.declared.element.Element.{Element}
use Rattle.soar_wm.specs.WorkingMemory.{tag_of}
use Rattle.defs_soar.specs.Architecture.{operator_word}
use Rattle.defs_soar.specs.Verdicts.{marked_tag}

abbrev or_none : Option ℕ → ℕ
or_none (Some tag) = tag
or_none None = 0

is_marked : (b : Bool) → mark_eq b true ≡ b
is_marked true = refl
is_marked false = refl

tag_is : (elements : List Element) (goal operator : Sym)
    → or_none (tag_of (record { id = goal; attr = operator_word; value = operator; accept = true }) elements) ≡ marked_tag elements goal operator
tag_is [] goal operator = refl
tag_is (e ∷ elements) goal operator = go (tag_is elements goal operator) (symbol_eq e.id goal) (symbol_eq e.attr operator_word) (symbol_eq e.value operator) e.accept
  where
    rest : ℕ
    rest = marked_tag elements goal operator

    found : Option ℕ
    found = tag_of (record { id = goal; attr = operator_word; value = operator; accept = true }) elements

    go : or_none (tag_of (record { id = goal; attr = operator_word; value = operator; accept = true }) elements) ≡ marked_tag elements goal operator → (a b v m : Bool) → or_none (cond (a && (b && (v && mark_eq m true))) (Some e.tag) found) ≡ cond (a && (b && (v && m))) e.tag rest
    go k true true true true = refl
    go k true true true false = k
    go k true true false m = k
    go k true false v m = k
    go k false b v m = k

pub marked_tag_is : (elements : List Element) (goal operator : Sym) (tag : Option ℕ) → tag ≡ tag_of (record { id = goal; attr = operator_word; value = operator; accept = true }) elements
    → or_none tag ≡ marked_tag elements goal operator
marked_tag_is elements goal operator tag q = ap or_none q ∙ tag_is elements goal operator
