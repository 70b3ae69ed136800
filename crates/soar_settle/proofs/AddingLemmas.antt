-- Triples that no element has, none of which stands twice, can be added one after the other.
use Rattle.std.proofs.Common.{◌≡◌, ℕ, suc, Bool, true, false, cond, not, ◌||◌, ◌&&◌, List, [], ◌∷◌, ◌++◌, map, Some, None, refl, ◌∙◌, ap, ap₂}
use Rattle.std.specs.Ordering.{is_lt}
use Rattle.std.proofs.lemmas.Cmp.{nat_eq_equiv, int_eq_equiv}
use Rattle.soar_sym.specs.Equality.{mark_eq, symbol_eq}
use Rattle.soar_sym.specs.Order.{triple_cmp}
use Rattle.soar_sym.specs.Words.{Texts}
use Rattle.soar_sym.specs.declared.symbol.Sym.{Sym}
use Rattle.soar_sym.specs.declared.symbol.Sym.TheVariants.{Ident, Word, Int}
use Rattle.soar_sym.specs.declared.symbol.Triple.{Triple}
use Rattle.soar_wm.specs.declared.element.Element.{Element}
use Rattle.soar_wm.specs.WorkingMemory.{has_triple, tag_of, triple_of}
use Rattle.defs_soar.specs.declared.goal.Goal.{Goal}
use Rattle.defs_soar.specs.Settling.{element_of_triple, new_triples}
use Rattle.defs_soar.specs.Sorted.{in_order, with_triple_at}
use Rattle.defs_soar.specs.Values.{has_triple_among, triple_eq}
use Rattle.soar_settle.specs.Tagging.{AreAddable}
use Rattle.soar_settle.proofs.TripleOrderLemmas.{IsOther, AreOthers, others_in_order}

-- ---- which of two is asked for is the same

symbol_eq-symm : (a b : Sym) → symbol_eq a b ≡ symbol_eq b a
symbol_eq-symm (Ident a m) (Ident b n) = ap₂ (λ p q. p && q) (nat_eq_equiv.symm a b) (nat_eq_equiv.symm m n)
symbol_eq-symm (Ident a m) (Word n) = refl
symbol_eq-symm (Ident a m) (Int n) = refl
symbol_eq-symm (Word m) (Ident b n) = refl
symbol_eq-symm (Word m) (Word n) = nat_eq_equiv.symm m n
symbol_eq-symm (Word m) (Int n) = refl
symbol_eq-symm (Int m) (Ident b n) = refl
symbol_eq-symm (Int m) (Word n) = refl
symbol_eq-symm (Int m) (Int n) = int_eq_equiv.symm m n

mark_eq-symm : (a b : Bool) → mark_eq a b ≡ mark_eq b a
mark_eq-symm true true = refl
mark_eq-symm true false = refl
mark_eq-symm false true = refl
mark_eq-symm false false = refl

has_as_equal : (t : Triple) (e : Element) → has_triple t e ≡ triple_eq t (triple_of e)
has_as_equal t e =
    ap₂ (λ p q. p && q) (symbol_eq-symm e.id t.id)
    (ap₂ (λ p q. p && q) (symbol_eq-symm e.attr t.attr) (ap₂ (λ p q. p && q) (symbol_eq-symm e.value t.value) (mark_eq-symm e.accept t.accept)))

-- ---- triples that no element has

abbrev AreMissing : List Element → List Triple → Type 0
AreMissing elements [] = Unit {0}
AreMissing elements (t ∷ triples) = (tag_of t elements ≡ None) × AreMissing elements triples

missing_as_none : (t : Triple) (elements : List Element) → has_triple_among (map triple_of elements) t ≡ false → tag_of t elements ≡ None
missing_as_none t [] none = refl
missing_as_none t (e ∷ elements) none =
    ap (λ b. cond b (Some e.tag) (tag_of t elements)) (has_as_equal t e)
    ∙ by (triple_eq t (triple_of e)) none (missing_as_none t elements)
  where
    by : (b : Bool) → (b || has_triple_among (map triple_of elements) t) ≡ false → (has_triple_among (map triple_of elements) t ≡ false → tag_of t elements ≡ None)
        → cond b (Some e.tag) (tag_of t elements) ≡ None
    by true none later = absurd (cc)
    by false none later = later none

missing_new : (elements : List Element) (kept : List Triple) → AreMissing elements (new_triples elements kept)
missing_new elements [] = tt
missing_new elements (t ∷ kept) = by (has_triple_among (map triple_of elements) t) refl (missing_new elements kept)
  where
    by : (b : Bool) → has_triple_among (map triple_of elements) t ≡ b → AreMissing elements (new_triples elements kept)
        → AreMissing elements (cond (not b) (t ∷ new_triples elements kept) (new_triples elements kept))
    by true has later = later
    by false has later = (missing_as_none t elements has, later)

missing_with : (words : Texts) (elements : List Element) (t : Triple) (triples : List Triple) → tag_of t elements ≡ None → AreMissing elements triples
    → AreMissing elements (with_triple_at words triples t)
missing_with words elements t [] none missing = (none, tt)
missing_with words elements t (u ∷ triples) none missing =
    by (is_lt (triple_cmp words t u)) (is_lt (triple_cmp words u t)) (missing_with words elements t triples none missing.1)
  where
    by : (b d : Bool) → AreMissing elements (with_triple_at words triples t)
        → AreMissing elements (cond b (t ∷ u ∷ triples) (cond d (u ∷ with_triple_at words triples t) (u ∷ triples)))
    by true d later = (none, missing)
    by false true later = (missing.0, later)
    by false false later = missing

missing_in_order : (words : Texts) (elements : List Element) (triples : List Triple) → AreMissing elements triples → AreMissing elements (in_order words triples)
missing_in_order words elements [] missing = tt
missing_in_order words elements (t ∷ triples) missing =
    missing_with words elements t (in_order words triples) missing.0 (missing_in_order words elements triples missing.1)

-- ---- one element more

missing_after : (t : Triple) (elements : List Element) (e : Element) → tag_of t elements ≡ None → has_triple t e ≡ false → tag_of t (elements ++ e ∷ []) ≡ None
missing_after t [] e none differs = ap (λ b. cond b (Some e.tag) None) differs
missing_after t (f ∷ elements) e none differs = by (has_triple t f) none (λ h. missing_after t elements e h differs)
  where
    by : (b : Bool) → cond b (Some f.tag) (tag_of t elements) ≡ None → (tag_of t elements ≡ None → tag_of t (elements ++ e ∷ []) ≡ None)
        → cond b (Some f.tag) (tag_of t (elements ++ e ∷ [])) ≡ None
    by true none later = absurd (cc)
    by false none later = later none

all_missing_after : (goals : List Goal) (tag : ℕ) (elements : List Element) (t : Triple) (triples : List Triple) → AreMissing elements triples → IsOther t triples
    → AreMissing (elements ++ element_of_triple goals tag t ∷ []) triples
all_missing_after goals tag elements t [] missing other = tt
all_missing_after goals tag elements t (u ∷ triples) missing other =
    (missing_after u elements (element_of_triple goals tag t) missing.0 other.0, all_missing_after goals tag elements t triples missing.1 other.1)

addable_where_missing : (goals : List Goal) (last : ℕ) (elements : List Element) (triples : List Triple) → AreMissing elements triples → AreOthers triples
    → AreAddable goals last elements triples
addable_where_missing goals last elements [] missing others = tt
addable_where_missing goals last elements (t ∷ triples) missing others = (
  missing.0,
  addable_where_missing goals (suc last) (elements ++ element_of_triple goals (suc last) t ∷ []) triples
      (all_missing_after goals (suc last) elements t triples missing.1 others.0) others.1,
)

pub new_are_addable : (words : Texts) (goals : List Goal) (last : ℕ) (elements : List Element) (kept : List Triple)
    → AreAddable goals last elements (in_order words (new_triples elements kept))
new_are_addable words goals last elements kept =
    addable_where_missing goals last elements (in_order words (new_triples elements kept))
    (missing_in_order words elements (new_triples elements kept) (missing_new elements kept)) (others_in_order words (new_triples elements kept))
