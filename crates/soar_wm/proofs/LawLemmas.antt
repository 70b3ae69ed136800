-- Working memory stays lawful as elements come and go.
use Rattle.std.proofs.Common.{◌≡◌, ℕ, ◌+◌, ◌<◌, ◌≤◌, Bool, true, false, ◌&&◌, cond, List, [], ◌∷◌, ◌++◌, length, Some, None, refl, sym, ap₂, subst, ◌∙◌, arith, length-append}
use Rattle.std.proofs.lemmas.Cmp.{nat_eq_equiv, int_eq_equiv}
use Rattle.soar_sym.specs.Equality.{symbol_eq, mark_eq}
use Rattle.soar_sym.specs.declared.symbol.Sym.{Sym}
use Rattle.soar_sym.specs.declared.symbol.Sym.TheVariants.{Ident, Word, Int}
use Rattle.soar_sym.specs.declared.symbol.Triple.{Triple}
use Rattle.soar_wm.specs.declared.element.Element.{Element}
use Rattle.soar_wm.specs.WorkingMemory.{WorkingMemory, has_triple, tag_of, has_tag, without_tag, triple_of, element_for, with_triple, IsBelow, IsRising, IsGiven, Lacks, IsDistinct, IsLawful}

-- which of two triples is asked for is the same

pub symbol_eq-symm : (a b : Sym) → symbol_eq a b ≡ symbol_eq b a
symbol_eq-symm (Ident a m) (Ident b n) = ap₂ (λ p q. p && q) (nat_eq_equiv.symm a b) (nat_eq_equiv.symm m n)
symbol_eq-symm (Ident a m) (Word n) = refl
symbol_eq-symm (Ident a m) (Int n) = refl
symbol_eq-symm (Word m) (Ident b n) = refl
symbol_eq-symm (Word m) (Word n) = nat_eq_equiv.symm m n
symbol_eq-symm (Word m) (Int n) = refl
symbol_eq-symm (Int m) (Ident b n) = refl
symbol_eq-symm (Int m) (Word n) = refl
symbol_eq-symm (Int m) (Int n) = int_eq_equiv.symm m n

mark_eq-symm : (a b : Bool) → mark_eq a b ≡ mark_eq b a
mark_eq-symm true true = refl
mark_eq-symm true false = refl
mark_eq-symm false true = refl
mark_eq-symm false false = refl

has_triple-symm : (e f : Element) → has_triple (triple_of e) f ≡ has_triple (triple_of f) e
has_triple-symm e f =
    ap₂ (λ p q. p && q) (symbol_eq-symm f.id e.id)
    (ap₂ (λ p q. p && q) (symbol_eq-symm f.attr e.attr) (ap₂ (λ p q. p && q) (symbol_eq-symm f.value e.value) (mark_eq-symm f.accept e.accept)))

-- a triple with no tag is in none of them
pub lacks : (t : Triple) (es : List Element) → tag_of t es ≡ None → Lacks t es
lacks t [] none = tt
lacks t (e ∷ es) none = by (has_triple t e) refl none (lacks t es)
  where
    by : (b : Bool) → has_triple t e ≡ b → cond b (Some e.tag) (tag_of t es) ≡ None → (tag_of t es ≡ None → Lacks t es) → Lacks t (e ∷ es)
    by true same none later = absurd (cc)
    by false same none later = (same, later none)

-- one element more, at the end

below_push : (tag : ℕ) (es : List Element) (new : Element) → IsBelow tag es → tag < new.tag → IsBelow tag (es ++ new ∷ [])
below_push tag [] new below less = (less, tt)
below_push tag (e ∷ es) new below less = (below.0, below_push tag es new below.1 less)

rising_push : (last : ℕ) (es : List Element) (new : Element) → IsRising es → IsGiven last es → last < new.tag → IsRising (es ++ new ∷ [])
rising_push last [] new rising given less = (tt, tt)
rising_push last (e ∷ es) new rising given less = (below_push e.tag es new rising.0 (omega (arith, given.1)), rising_push last es new rising.1 given.2 less)

given_push : (last : ℕ) (es : List Element) (new : Element) → IsGiven last es → new.tag ≡ last + 1 → IsGiven (last + 1) (es ++ new ∷ [])
given_push last [] new given next = (omega (arith, next), omega (arith, next), tt)
given_push last (e ∷ es) new given next = (given.0, omega (arith, given.1), given_push last es new given.2 next)

lacks_push : (t : Triple) (es : List Element) (new : Element) → Lacks t es → has_triple t new ≡ false → Lacks t (es ++ new ∷ [])
lacks_push t [] new lacking differ = (differ, tt)
lacks_push t (e ∷ es) new lacking differ = (lacking.0, lacks_push t es new lacking.1 differ)

distinct_push : (es : List Element) (new : Element) → IsDistinct es → Lacks (triple_of new) es → IsDistinct (es ++ new ∷ [])
distinct_push [] new distinct lacking = (tt, tt)
distinct_push (e ∷ es) new distinct lacking =
    (lacks_push (triple_of e) es new distinct.0 (has_triple-symm e new ∙ lacking.0), distinct_push es new distinct.1 lacking.1)

lawful_with : (m : WorkingMemory) (t : Triple) (of_state : Bool) → IsLawful m → tag_of t m.elements ≡ None → length m.elements < m.limit → IsLawful (with_triple m t of_state)
lawful_with m t of_state lawful none room =
    let new : Element = element_for (m.last + 1) t of_state in record {
      rising = rising_push m.last m.elements new lawful.rising lawful.given (omega arith);
      given = given_push m.last m.elements new lawful.given refl;
      distinct = distinct_push m.elements new lawful.distinct (lacks t m.elements none);
      few = omega (arith, length-append m.elements (new ∷ []));
    }

-- the same, where the list is written out
pub lawful_add : (old new : List Element) (limit last : ℕ) (t : Triple) (of_state : Bool) → IsLawful (record { elements = old; limit = limit; last = last }) → tag_of t old ≡ None → length old < limit
    → new ≡ old ++ element_for (last + 1) t of_state ∷ [] → IsLawful (record { elements = new; limit = limit; last = last + 1 })
lawful_add old new limit last t of_state lawful none room is =
    subst (λ es. IsLawful (record { elements = es; limit = limit; last = last + 1 })) (sym is)
    (lawful_with (record { elements = old; limit = limit; last = last }) t of_state lawful none room)

-- one element less

below_without : (low tag : ℕ) (es : List Element) → IsBelow low es → IsBelow low (without_tag tag es)
below_without low tag [] below = tt
below_without low tag (e ∷ es) below = by (has_tag tag e) (below_without low tag es below.1)
  where
    by : (b : Bool) → IsBelow low (without_tag tag es) → IsBelow low (cond b es (e ∷ without_tag tag es))
    by true later = below.1
    by false later = (below.0, later)

rising_without : (tag : ℕ) (es : List Element) → IsRising es → IsRising (without_tag tag es)
rising_without tag [] rising = tt
rising_without tag (e ∷ es) rising = by (has_tag tag e) (rising_without tag es rising.1)
  where
    by : (b : Bool) → IsRising (without_tag tag es) → IsRising (cond b es (e ∷ without_tag tag es))
    by true later = rising.1
    by false later = (below_without e.tag tag es rising.0, later)

given_without : (last tag : ℕ) (es : List Element) → IsGiven last es → IsGiven last (without_tag tag es)
given_without last tag [] given = tt
given_without last tag (e ∷ es) given = by (has_tag tag e) (given_without last tag es given.2)
  where
    by : (b : Bool) → IsGiven last (without_tag tag es) → IsGiven last (cond b es (e ∷ without_tag tag es))
    by true later = given.2
    by false later = (given.0, given.1, later)

lacks_without : (t : Triple) (tag : ℕ) (es : List Element) → Lacks t es → Lacks t (without_tag tag es)
lacks_without t tag [] lacking = tt
lacks_without t tag (e ∷ es) lacking = by (has_tag tag e) (lacks_without t tag es lacking.1)
  where
    by : (b : Bool) → Lacks t (without_tag tag es) → Lacks t (cond b es (e ∷ without_tag tag es))
    by true later = lacking.1
    by false later = (lacking.0, later)

distinct_without : (tag : ℕ) (es : List Element) → IsDistinct es → IsDistinct (without_tag tag es)
distinct_without tag [] distinct = tt
distinct_without tag (e ∷ es) distinct = by (has_tag tag e) (distinct_without tag es distinct.1)
  where
    by : (b : Bool) → IsDistinct (without_tag tag es) → IsDistinct (cond b es (e ∷ without_tag tag es))
    by true later = distinct.1
    by false later = (lacks_without (triple_of e) tag es distinct.0, later)

fewer_without : (tag : ℕ) (es : List Element) → length (without_tag tag es) ≤ length es
fewer_without tag [] = omega arith
fewer_without tag (e ∷ es) = by (has_tag tag e) (fewer_without tag es)
  where
    by : (b : Bool) → length (without_tag tag es) ≤ length es → length (cond b es (e ∷ without_tag tag es)) ≤ length (e ∷ es)
    by true later = omega arith
    by false later = omega arith

lawful_without : (m : WorkingMemory) (tag : ℕ) → IsLawful m → IsLawful (record m { elements = without_tag tag m.elements })
lawful_without m tag lawful = record {
  rising = rising_without tag m.elements lawful.rising;
  given = given_without m.last tag m.elements lawful.given;
  distinct = distinct_without tag m.elements lawful.distinct;
  few = omega (arith, lawful.few, fewer_without tag m.elements);
}

pub lawful_remove : (es new : List Element) (limit last tag : ℕ) → IsLawful (record { elements = es; limit = limit; last = last }) → new ≡ without_tag tag es → IsLawful (record { elements = new; limit = limit; last = last })
lawful_remove es new limit last tag lawful is =
    subst (λ xs. IsLawful (record { elements = xs; limit = limit; last = last })) (sym is) (lawful_without (record { elements = es; limit = limit; last = last }) tag lawful)
