-- Triples in their order rise, so none of them stands twice.
use Rattle.std.proofs.Common.{◌≡◌, ◌∙◌, ap, sym, refl, subst, Bool, true, false, cond, ◌&&◌, ℕ, ◌+◌, ◌<◌, arith, List, [], ◌∷◌, length, get_or, drop, Ordering, Less, Equal, Greater, is_lt}
use Rattle.std.specs.Cmp.{IsTotalOrder, bool_cmp_total}
use Rattle.std.specs.Ordering.{bool_cmp}
use Rattle.std.proofs.lemmas.List.{at_drop_more}
use Rattle.std.proofs.lemmas.Cmp.{on_total, then_total, tied_itself}
use Rattle.soar_sym.specs.Equality.{mark_eq, symbol_eq}
use Rattle.soar_sym.specs.Order.{mark_cmp, triple_cmp}
use Rattle.soar_sym.specs.Words.{Texts}
use Rattle.soar_sym.specs.declared.symbol.Sym.TheVariants.{Ident}
use Rattle.soar_sym.specs.declared.symbol.Triple.{Triple}
use Rattle.defs_soar.specs.Sorted.{in_order, with_triple_at}
use Rattle.defs_soar.specs.Values.{triple_eq}
use Rattle.soar_settle.specs.Known.{AreTriplesKnown}
use Rattle.soar_settle.specs.Merging.{IsFirst, Rises, is_rising, rises_after}
use Rattle.soar_settle.specs.Tagging.{IsTripleKnown}
use Rattle.soar_prefs.proofs.SymbolOrderLemmas.{symbol_same, symbols_total}

abbrev pub no_triple : Triple
no_triple = record { id = Ident 0 0; attr = Ident 0 0; value = Ident 0 0; accept = false }

-- ---- equality

pub both : (a b : Bool) → (a && b) ≡ true → (a ≡ true) × (b ≡ true)
both true b h = (refl, h)
both false b h = cc

mark_same : (a b : Bool) → mark_eq a b ≡ true → a ≡ b
mark_same true true h = refl
mark_same true false h = cc
mark_same false true h = cc
mark_same false false h = refl

pub triple_same : (t u : Triple) → triple_eq t u ≡ true → t ≡ u
triple_same t u h =
    let first = both (symbol_eq t.id u.id) (symbol_eq t.attr u.attr && (symbol_eq t.value u.value && mark_eq t.accept u.accept)) h in
    let second = both (symbol_eq t.attr u.attr) (symbol_eq t.value u.value && mark_eq t.accept u.accept) first.1 in
    let third = both (symbol_eq t.value u.value) (mark_eq t.accept u.accept) second.1 in
    λ i. record {
      id = symbol_same t.id u.id first.0 i;
      attr = symbol_same t.attr u.attr second.0 i;
      value = symbol_same t.value u.value third.0 i;
      accept = mark_same t.accept u.accept third.1 i;
    }

-- ---- the order

same_mark : (a b : Bool) → bool_cmp a b ≡ mark_cmp a b
same_mark true true = refl
same_mark true false = refl
same_mark false true = refl
same_mark false false = refl

marks_total : IsTotalOrder mark_cmp
marks_total = subst IsTotalOrder (λ i a b. same_mark a b i) bool_cmp_total

pub triples_total : (words : Texts) → IsTotalOrder (triple_cmp words)
triples_total words =
    then_total (on_total (λ (t : Triple). t.id) (symbols_total words))
    (then_total (on_total (λ (t : Triple). t.attr) (symbols_total words))
    (then_total (on_total (λ (t : Triple). t.value) (symbols_total words)) (on_total (λ (t : Triple). t.accept) marks_total)))

before_is_other : (words : Texts) (t u : Triple) → triple_cmp words t u ≡ Less → triple_eq t u ≡ false
before_is_other words t u h = by (triple_eq t u) refl
  where
    apart : Equal ≡ Less → ⊥
    apart k = cc

    by : (b : Bool) → triple_eq t u ≡ b → b ≡ false
    by true e = absurd (apart (sym (tied_itself (triples_total words) t) ∙ ap (triple_cmp words t) (triple_same t u e) ∙ h))
    by false e = refl

-- ---- lists in order

module _ (words : Texts) where
  pub first_before : (t u : Triple) (triples : List Triple) → triple_cmp words t u ≡ Less → IsFirst words u triples → IsFirst words t triples
  first_before t u [] e h = tt
  first_before t u (v ∷ triples) e h = ((triples_total words).trans t u v e h.0, first_before t u triples e h.1)

  first_with : (t u : Triple) (triples : List Triple) → triple_cmp words t u ≡ Less → IsFirst words t triples → IsFirst words t (with_triple_at words triples u)
  first_with t u [] e h = (e, tt)
  first_with t u (v ∷ triples) e h = by (is_lt (triple_cmp words u v)) (is_lt (triple_cmp words v u)) (first_with t u triples e h.1)
    where
      by : (b d : Bool) → IsFirst words t (with_triple_at words triples u)
          → IsFirst words t (cond b (u ∷ v ∷ triples) (cond d (v ∷ with_triple_at words triples u) (v ∷ triples)))
      by true d later = (e, h)
      by false true later = (h.0, later)
      by false false later = h

  is_less : (o : Ordering) → is_lt o ≡ true → o ≡ Less
  is_less Less e = refl
  is_less Equal e = cc
  is_less Greater e = cc

  rises_with : (t : Triple) (triples : List Triple) → Rises words triples → Rises words (with_triple_at words triples t)
  rises_with t [] h = (tt, tt)
  rises_with t (u ∷ triples) h = by (is_lt (triple_cmp words t u)) (is_lt (triple_cmp words u t)) refl refl (rises_with t triples h.1)
    where
      by : (b d : Bool) → is_lt (triple_cmp words t u) ≡ b → is_lt (triple_cmp words u t) ≡ d → Rises words (with_triple_at words triples t)
          → Rises words (cond b (t ∷ u ∷ triples) (cond d (u ∷ with_triple_at words triples t) (u ∷ triples)))
      by true d before after later = let e = is_less (triple_cmp words t u) before in ((e, first_before t u triples e h.0), h)
      by false true before after later = (first_with u t triples (is_less (triple_cmp words u t) after) h.0, later)
      by false false before after later = h

  pub rises_in_order : (triples : List Triple) → Rises words (in_order words triples)
  rises_in_order [] = tt
  rises_in_order (t ∷ triples) = rises_with t (in_order words triples) (rises_in_order triples)

  -- ---- neighbours in order

  rises_on : (t : Triple) (triples : List Triple) → rises_after words t triples ≡ true → Rises words (t ∷ triples)
  rises_on t [] h = (tt, tt)
  rises_on t (u ∷ triples) h =
      let parts = both (is_lt (triple_cmp words t u)) (rises_after words u triples) h in
      let less = is_less (triple_cmp words t u) parts.0 in
      let later = rises_on u triples parts.1 in
      ((less, first_before t u triples less later.0), later)

  pub rises_already : (triples : List Triple) → is_rising words triples ≡ true → Rises words triples
  rises_already [] h = tt
  rises_already (t ∷ triples) h = rises_on t triples h

  pub two_where_not_rising : (triples : List Triple) → is_rising words triples ≡ false → 1 < length triples
  two_where_not_rising [] h = cc
  two_where_not_rising (t ∷ []) h = cc
  two_where_not_rising (t ∷ u ∷ triples) h = omega arith

  -- a loop's step
  pub rises_more : (t : Triple) (triples : List Triple) (at : ℕ) → at < length triples → is_lt (triple_cmp words t (get_or triples at no_triple)) ≡ true
      → rises_after words (get_or triples at no_triple) (drop (at + 1) triples) ≡ rises_after words t (drop at triples)
  rises_more t triples at less before =
      let u : Triple = get_or triples at no_triple in
      sym (at_drop_more (rises_after words t) triples at no_triple less ∙ ap (λ b. b && rises_after words u (drop (at + 1) triples)) before)

  -- ---- known symbols

  known_with : (t : Triple) (triples : List Triple) → AreTriplesKnown words triples → IsTripleKnown words t → AreTriplesKnown words (with_triple_at words triples t)
  known_with t [] k h = (h, tt)
  known_with t (u ∷ triples) k h = by (is_lt (triple_cmp words t u)) (is_lt (triple_cmp words u t)) (known_with t triples k.1 h)
    where
      by : (b d : Bool) → AreTriplesKnown words (with_triple_at words triples t)
          → AreTriplesKnown words (cond b (t ∷ u ∷ triples) (cond d (u ∷ with_triple_at words triples t) (u ∷ triples)))
      by true d later = (h, k)
      by false true later = (k.0, later)
      by false false later = k

  pub known_in_order : (triples : List Triple) → AreTriplesKnown words triples → AreTriplesKnown words (in_order words triples)
  known_in_order [] k = tt
  known_in_order (t ∷ triples) k = known_with t (in_order words triples) (known_in_order triples k.1) k.0

-- ---- triples that differ

-- the triple is none of these
abbrev pub IsOther : Triple → List Triple → Type 0
IsOther t [] = Unit {0}
IsOther t (u ∷ triples) = (triple_eq t u ≡ false) × IsOther t triples

-- none stands twice
abbrev pub AreOthers : List Triple → Type 0
AreOthers [] = Unit {0}
AreOthers (t ∷ triples) = IsOther t triples × AreOthers triples

first_is_other : (words : Texts) (t : Triple) (triples : List Triple) → IsFirst words t triples → IsOther t triples
first_is_other words t [] h = tt
first_is_other words t (u ∷ triples) h = (before_is_other words t u h.0, first_is_other words t triples h.1)

rising_are_others : (words : Texts) (triples : List Triple) → Rises words triples → AreOthers triples
rising_are_others words [] h = tt
rising_are_others words (t ∷ triples) h = (first_is_other words t triples h.0, rising_are_others words triples h.1)

pub others_in_order : (words : Texts) (triples : List Triple) → AreOthers (in_order words triples)
others_in_order words triples = rising_are_others words (in_order words triples) (rises_in_order words triples)
