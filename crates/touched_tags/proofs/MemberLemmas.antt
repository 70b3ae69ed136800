-- What lists hold.
use Rattle.std.proofs.Common.{◌≡◌, ◌∙◌, refl, sym, ap, Bool, true, false, ◌||◌, ◌⊎◌, inl, inr, List, [], ◌∷◌, Option, Some, None, filter_map}
use Rattle.std.specs.List.{cons_option}
use Rattle.soar_sym.specs.declared.symbol.Triple.{Triple}
use Rattle.defs_soar.specs.Laws.{IsIn}
use Rattle.defs_soar.specs.Values.{has_triple_among, triple_eq}
use Rattle.settling_laws.proofs.SlotLemmas.{triple_itself}
use Rattle.soar_settle.proofs.TripleOrderLemmas.{triple_same}

pub has_member : (triples : List Triple) (t : Triple) → has_triple_among triples t ≡ true → IsIn t triples
has_member [] t h = absurd (cc)
has_member (u ∷ triples) t h = by (has_member triples t) (triple_eq t u) refl h
  where
    by : (has_triple_among triples t ≡ true → IsIn t triples) → (b : Bool) → triple_eq t u ≡ b → (b || has_triple_among triples t) ≡ true → (u ≡ t) ⊎ IsIn t triples
    by later true e k = inl (sym (triple_same t u e))
    by later false e k = inr (later k)

pub member_has : (triples : List Triple) (t : Triple) → IsIn t triples → has_triple_among triples t ≡ true
member_has [] t i = absurd i
member_has (u ∷ triples) t (inl e) = by (triple_eq t u) (ap (triple_eq t) e ∙ triple_itself t)
  where
    by : (b : Bool) → b ≡ true → (b || has_triple_among triples t) ≡ true
    by true k = refl
    by false k = absurd (cc)
member_has (u ∷ triples) t (inr i) = by (triple_eq t u) (member_has triples t i)
  where
    by : (b : Bool) → has_triple_among triples t ≡ true → (b || has_triple_among triples t) ≡ true
    by true k = refl
    by false k = k

pub same_some : {A : Type 0} (a b : A) → Some a ≡ Some b → a ≡ b
same_some a b k = cc

-- where an item of what a function gives comes from
pub of_filter_map : {A B : Type 0} (f : A → Option B) (xs : List A) (y : B) → IsIn y (filter_map f xs) → (x : A) × IsIn x xs × (f x ≡ Some y)
of_filter_map {A = A} {B = B} f [] y i = absurd i
of_filter_map {A = A} {B = B} f (x ∷ xs) y i = by (f x) refl (of_filter_map f xs y) i
  where
    later : (v : A) × IsIn v xs × (f v ≡ Some y) → (v : A) × IsIn v (x ∷ xs) × (f v ≡ Some y)
    later there = (there.0, inr there.1, there.2)

    by : (o : Option B) → f x ≡ o → (IsIn y (filter_map f xs) → (v : A) × IsIn v xs × (f v ≡ Some y)) → IsIn y (cons_option o (filter_map f xs))
        → (v : A) × IsIn v (x ∷ xs) × (f v ≡ Some y)
    by None p rest j = later (rest j)
    by (Some z) p rest (inl q) = (x, inl refl, p ∙ ap Some q)
    by (Some z) p rest (inr j) = later (rest j)

pub in_filter_map : {A B : Type 0} (f : A → Option B) (xs : List A) (x : A) (y : B) → IsIn x xs → f x ≡ Some y → IsIn y (filter_map f xs)
in_filter_map f [] x y i h = absurd i
in_filter_map {A = A} {B = B} f (v ∷ xs) x y (inl q) h = by (f v) (ap f q ∙ h)
  where
    by : (o : Option B) → o ≡ Some y → IsIn y (cons_option o (filter_map f xs))
    by None k = absurd (cc)
    by (Some z) k = inl (same_some z y k)
in_filter_map {A = A} {B = B} f (v ∷ xs) x y (inr i) h = by (f v) (in_filter_map f xs x y i h)
  where
    by : (o : Option B) → IsIn y (filter_map f xs) → IsIn y (cons_option o (filter_map f xs))
    by None j = j
    by (Some z) j = inr j
