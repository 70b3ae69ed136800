-- Elements by tag are in order of tag, each once.
use Rattle.std.proofs.Common.{◌≡◌, ◌∙◌, refl, sym, ap, subst, ℕ, ◌<◌, Bool, true, false, cond, ◌⊎◌, inl, inr, arith, List, [], ◌∷◌, filter, Ordering, Less, Equal, Greater, nat_cmp}
use Rattle.std.proofs.lemmas.Grind.{common_steps}
use Rattle.std.specs.BTreeMap.{insert_entry}
use Rattle.std.specs.Ordering.{match_ordering}
use Rattle.soar_wm.specs.declared.element.Element.{Element}
use Rattle.soar_wm.specs.WorkingMemory.{IsBelow, IsRising}
use Rattle.defs_soar.specs.Laws.{IsIn}
use Rattle.touched_tags.specs.Looked.{elements_in, with_elements}
use Rattle.touched_tags.proofs.FirstLemmas.{below_in}
use Rattle.touched_tags.proofs.MemoryLemmas.{below_filter}

-- ---- numbers in order

less_is : (m k : ℕ) → nat_cmp m k ≡ Less → m < k
less_is m k h = grind (arith, common_steps)

equal_is : (m k : ℕ) → nat_cmp m k ≡ Equal → m ≡ k
equal_is m k h = grind (arith, common_steps)

more_is : (m k : ℕ) → nat_cmp m k ≡ Greater → k < m
more_is m k h = grind (arith, common_steps)

-- ---- an element more

abbrev AllAbove : ℕ → List (ℕ × Element) → Type 0
AllAbove n [] = Unit {0}
AllAbove n (p ∷ entries) = (n < p.0) × AllAbove n entries

-- each stands at its tag, and the tags rise
abbrev pub Rise : List (ℕ × Element) → Type 0
Rise [] = Unit {0}
Rise (p ∷ entries) = (p.1.tag ≡ p.0) × AllAbove p.0 entries × Rise entries

above_less : (n m : ℕ) (entries : List (ℕ × Element)) → n < m → AllAbove m entries → AllAbove n entries
above_less n m [] l h = tt
above_less n m (p ∷ entries) l h = (omega (arith, l, h.0), above_less n m entries l h.1)

above_with : (n : ℕ) (e : Element) (entries : List (ℕ × Element)) → n < e.tag → AllAbove n entries → AllAbove n (insert_entry nat_cmp entries e.tag e)
above_with n e [] l h = (l, tt)
above_with n e (p ∷ entries) l h = by (nat_cmp e.tag p.0) (above_with n e entries l h.1)
  where
    by : (o : Ordering) → AllAbove n (insert_entry nat_cmp entries e.tag e) → AllAbove n (match_ordering o ((e.tag, e) ∷ p ∷ entries) ((p.0, e) ∷ entries) (p ∷ insert_entry nat_cmp entries e.tag e))
    by Less later = (l, h)
    by Equal later = h
    by Greater later = (h.0, later)

rise_with : (e : Element) (entries : List (ℕ × Element)) → Rise entries → Rise (insert_entry nat_cmp entries e.tag e)
rise_with e [] h = (refl, tt, tt)
rise_with e (p ∷ entries) h = by (nat_cmp e.tag p.0) refl (rise_with e entries h.2)
  where
    by : (o : Ordering) → nat_cmp e.tag p.0 ≡ o → Rise (insert_entry nat_cmp entries e.tag e)
        → Rise (match_ordering o ((e.tag, e) ∷ p ∷ entries) ((p.0, e) ∷ entries) (p ∷ insert_entry nat_cmp entries e.tag e))
    by Less q later = let less = less_is e.tag p.0 q in (refl, (less, above_less e.tag p.0 entries less h.1), h)
    by Equal q later = (equal_is e.tag p.0 q, h.1, h.2)
    by Greater q later = (h.0, above_with p.0 e entries (more_is e.tag p.0 q) h.1, later)

with_this : (e : Element) (entries : List (ℕ × Element)) → IsIn e (elements_in (insert_entry nat_cmp entries e.tag e))
with_this e [] = inl refl
with_this e (p ∷ entries) = by (nat_cmp e.tag p.0) (with_this e entries)
  where
    by : (o : Ordering) → IsIn e (elements_in (insert_entry nat_cmp entries e.tag e))
        → IsIn e (elements_in (match_ordering o ((e.tag, e) ∷ p ∷ entries) ((p.0, e) ∷ entries) (p ∷ insert_entry nat_cmp entries e.tag e)))
    by Less later = inl refl
    by Equal later = inl refl
    by Greater later = inr later

-- what was there stays, where its tag is another
with_others : (e f : Element) (entries : List (ℕ × Element)) → Rise entries → IsIn f (elements_in entries) → IsIn f (elements_in (insert_entry nat_cmp entries e.tag e)) ⊎ (f.tag ≡ e.tag)
with_others e f [] h i = absurd i
with_others e f (p ∷ entries) h i = by (nat_cmp e.tag p.0) refl i (with_others e f entries h.2)
  where
    same : nat_cmp e.tag p.0 ≡ Equal → p.1 ≡ f → f.tag ≡ e.tag
    same q r = ap (λ (g : Element). g.tag) (sym r) ∙ h.0 ∙ sym (equal_is e.tag p.0 q)

    by : (o : Ordering) → nat_cmp e.tag p.0 ≡ o → (p.1 ≡ f) ⊎ IsIn f (elements_in entries)
        → (IsIn f (elements_in entries) → IsIn f (elements_in (insert_entry nat_cmp entries e.tag e)) ⊎ (f.tag ≡ e.tag))
        → IsIn f (elements_in (match_ordering o ((e.tag, e) ∷ p ∷ entries) ((p.0, e) ∷ entries) (p ∷ insert_entry nat_cmp entries e.tag e))) ⊎ (f.tag ≡ e.tag)
    by Less q j later = inl (inr j)
    by Equal q (inl r) later = inr (same q r)
    by Equal q (inr j) later = inl (inr j)
    by Greater q (inl r) later = inl (inl r)
    by Greater q (inr j) later = elim (later j) [ inl k ↦ inl (inr k) | inr k ↦ inr k ]

from_with : (e f : Element) (entries : List (ℕ × Element)) → IsIn f (elements_in (insert_entry nat_cmp entries e.tag e)) → (e ≡ f) ⊎ IsIn f (elements_in entries)
from_with e f [] (inl q) = inl q
from_with e f [] (inr i) = absurd i
from_with e f (p ∷ entries) i = by (nat_cmp e.tag p.0) i (from_with e f entries)
  where
    by : (o : Ordering) → IsIn f (elements_in (match_ordering o ((e.tag, e) ∷ p ∷ entries) ((p.0, e) ∷ entries) (p ∷ insert_entry nat_cmp entries e.tag e)))
        → (IsIn f (elements_in (insert_entry nat_cmp entries e.tag e)) → (e ≡ f) ⊎ IsIn f (elements_in entries)) → (e ≡ f) ⊎ ((p.1 ≡ f) ⊎ IsIn f (elements_in entries))
    by Less (inl q) later = inl q
    by Less (inr j) later = inr j
    by Equal (inl q) later = inl q
    by Equal (inr j) later = inr (inr j)
    by Greater (inl q) later = inr (inl q)
    by Greater (inr j) later = elim (later j) [ inl q ↦ inl q | inr k ↦ inr (inr k) ]

-- ---- more elements

pub all_rise : (elements : List Element) (entries : List (ℕ × Element)) → Rise entries → Rise (with_elements elements entries)
all_rise [] entries h = h
all_rise (e ∷ elements) entries h = all_rise elements (insert_entry nat_cmp entries e.tag e) (rise_with e entries h)

pub of_all : (elements : List Element) (entries : List (ℕ × Element)) (f : Element) → IsIn f (elements_in (with_elements elements entries)) → IsIn f elements ⊎ IsIn f (elements_in entries)
of_all [] entries f i = inr i
of_all (e ∷ elements) entries f i = by (of_all elements (insert_entry nat_cmp entries e.tag e) f i)
  where
    first : (e ≡ f) ⊎ IsIn f (elements_in entries) → IsIn f (e ∷ elements) ⊎ IsIn f (elements_in entries)
    first (inl q) = inl (inl q)
    first (inr j) = inr j

    by : IsIn f elements ⊎ IsIn f (elements_in (insert_entry nat_cmp entries e.tag e)) → IsIn f (e ∷ elements) ⊎ IsIn f (elements_in entries)
    by (inl j) = inl (inr j)
    by (inr j) = first (from_with e f entries j)

-- where those of one tag are one, none takes the place of another
module _ (all : List Element) (one : (f g : Element) → IsIn f all → IsIn g all → f.tag ≡ g.tag → f ≡ g) where
  all_stay : (elements : List Element) (entries : List (ℕ × Element)) (f : Element) → ((g : Element) → IsIn g elements → IsIn g all) → Rise entries → IsIn f all → IsIn f (elements_in entries)
      → IsIn f (elements_in (with_elements elements entries))
  all_stay [] entries f within h j i = i
  all_stay (e ∷ elements) entries f within h j i =
      all_stay elements (insert_entry nat_cmp entries e.tag e) f (λ g k. within g (inr k)) (rise_with e entries h) j (by (with_others e f entries h i))
    where
      by : IsIn f (elements_in (insert_entry nat_cmp entries e.tag e)) ⊎ (f.tag ≡ e.tag) → IsIn f (elements_in (insert_entry nat_cmp entries e.tag e))
      by (inl k) = k
      by (inr same) = subst (λ g. IsIn g (elements_in (insert_entry nat_cmp entries e.tag e))) (one e f (within e (inl refl)) j (sym same)) (with_this e entries)

  all_there : (elements : List Element) (entries : List (ℕ × Element)) (f : Element) → ((g : Element) → IsIn g elements → IsIn g all) → Rise entries → IsIn f elements
      → IsIn f (elements_in (with_elements elements entries))
  all_there [] entries f within h i = absurd i
  all_there (e ∷ elements) entries f within h (inl q) =
      all_stay elements (insert_entry nat_cmp entries e.tag e) f (λ g k. within g (inr k)) (rise_with e entries h) (within f (inl q))
      (subst (λ g. IsIn g (elements_in (insert_entry nat_cmp entries e.tag e))) q (with_this e entries))
  all_there (e ∷ elements) entries f within h (inr i) = all_there elements (insert_entry nat_cmp entries e.tag e) f (λ g k. within g (inr k)) (rise_with e entries h) i

  pub each_there : (f : Element) → IsIn f all → IsIn f (elements_in (with_elements all []))
  each_there f i = all_there all [] f (λ g k. k) tt i

-- ---- elements of entries

below_all : (n : ℕ) (entries : List (ℕ × Element)) → AllAbove n entries → Rise entries → IsBelow n (elements_in entries)
below_all n [] l h = tt
below_all n (p ∷ entries) l h = (subst (λ k. n < k) (sym h.0) l.0, below_all n entries l.1 h.2)

pub elements_rise : (entries : List (ℕ × Element)) → Rise entries → IsRising (elements_in entries)
elements_rise [] h = tt
elements_rise (p ∷ entries) h = (subst (λ k. IsBelow k (elements_in entries)) (sym h.0) (below_all p.0 entries h.1 h.2), elements_rise entries h.2)

pub rising_filter : (p : Element → Bool) (elements : List Element) → IsRising elements → IsRising (filter p elements)
rising_filter p [] rising = tt
rising_filter p (e ∷ elements) rising = by (p e) (rising_filter p elements rising.1)
  where
    by : (b : Bool) → IsRising (filter p elements) → IsRising (cond b (e ∷ filter p elements) (filter p elements))
    by true later = (below_filter p e.tag elements rising.0, later)
    by false later = later

-- ---- lists in order of tag that hold the same

not_below_itself : (n : ℕ) → n < n → ⊥
not_below_itself n h = omega (arith, h)

pub rising_same : (a b : List Element) → IsRising a → IsRising b → ((e : Element) → IsIn e a → IsIn e b) → ((e : Element) → IsIn e b → IsIn e a) → a ≡ b
rising_same [] [] h k f g = refl
rising_same [] (o ∷ b) h k f g = absurd (g o (inl refl))
rising_same (e ∷ a) [] h k f g = absurd (f e (inl refl))
rising_same (e ∷ a) (o ∷ b) h k f g =
    let same = heads (f e (inl refl)) (g o (inl refl)) in
    λ i. sym same i ∷ rising_same a b h.1 k.1 (forth same) (back same) i
  where
    heads : (o ≡ e) ⊎ IsIn e b → (e ≡ o) ⊎ IsIn o a → o ≡ e
    heads (inl q) j = q
    heads (inr i) (inl q) = sym q
    heads (inr i) (inr j) = absurd (omega (arith, below_in e.tag a o h.0 j, below_in o.tag b e k.0 i))

    forth : o ≡ e → (v : Element) → IsIn v a → IsIn v b
    forth q v i = by (f v (inr i))
      where
        by : (o ≡ v) ⊎ IsIn v b → IsIn v b
        by (inl p) = absurd (not_below_itself e.tag (below_in e.tag a e h.0 (subst (λ w. IsIn w a) (sym p ∙ q) i)))
        by (inr j) = j

    back : o ≡ e → (v : Element) → IsIn v b → IsIn v a
    back q v i = by (g v (inr i))
      where
        by : (e ≡ v) ⊎ IsIn v a → IsIn v a
        by (inl p) = absurd (not_below_itself o.tag (below_in o.tag b o k.0 (subst (λ w. IsIn w b) (sym p ∙ sym q) i)))
        by (inr j) = j
