-- Elements, their tags and their triples.
use Rattle.std.proofs.Common.{◌≡◌, refl, ap₂, ℕ, ◌<◌, ◌==◌, Bool, true, false, ◌&&◌, cond, arith, List, [], ◌∷◌, filter}
use Rattle.soar_sym.specs.Equality.{mark_eq}
use Rattle.soar_sym.specs.declared.symbol.Triple.{Triple}
use Rattle.soar_sym.proofs.KeyLemmas.{symbol_turned}
use Rattle.soar_wm.specs.declared.element.Element.{Element}
use Rattle.soar_wm.specs.WorkingMemory.{IsBelow, has_triple, triple_of}
use Rattle.defs_soar.specs.Values.{triple_eq}

pub itself : (n : ℕ) → (n == n) ≡ true
itself n = grind arith

pub below_apart : (m n : ℕ) → m < n → (m == n) ≡ false
below_apart m n h = grind arith

pub below_filter : (p : Element → Bool) (tag : ℕ) (elements : List Element) → IsBelow tag elements → IsBelow tag (filter p elements)
below_filter p tag [] below = tt
below_filter p tag (e ∷ elements) below = by (p e) (below_filter p tag elements below.1)
  where
    by : (b : Bool) → IsBelow tag (filter p elements) → IsBelow tag (cond b (e ∷ filter p elements) (filter p elements))
    by true later = (below.0, later)
    by false later = later

pub mark_same : (a b : Bool) → mark_eq a b ≡ true → a ≡ b
mark_same true true h = refl
mark_same true false h = cc
mark_same false true h = cc
mark_same false false h = refl

mark_turned : (a b : Bool) → mark_eq a b ≡ mark_eq b a
mark_turned true true = refl
mark_turned true false = refl
mark_turned false true = refl
mark_turned false false = refl

pub has_as_equal : (t : Triple) (e : Element) → has_triple t e ≡ triple_eq t (triple_of e)
has_as_equal t e =
    ap₂ (λ p q. p && q) (symbol_turned e.id t.id)
    (ap₂ (λ p q. p && q) (symbol_turned e.attr t.attr) (ap₂ (λ p q. p && q) (symbol_turned e.value t.value) (mark_turned e.accept t.accept)))
