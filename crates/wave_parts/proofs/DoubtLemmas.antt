-- Tags of elements that went when all was settled.
use Rattle.std.proofs.Common.{◌≡◌, ◌∙◌, refl, sym, ap, ℕ, ◌==◌, ◌||◌, nat_lt, Bool, true, false, not, cond, arith, List, [], ◌∷◌, map, Option, Some, None}
use Rattle.std.specs.List.{list_any}
use Rattle.soar_sym.specs.declared.symbol.Triple.{Triple}
use Rattle.soar_wm.specs.declared.element.Element.{Element}
use Rattle.soar_wm.specs.WorkingMemory.{element_of, has_tag, triple_of, without_tag}
use Rattle.defs_match.specs.Contents.{IsNewElement, with_element}
use Rattle.defs_soar.specs.Trimming.{is_lost}
use Rattle.defs_soar.specs.Values.{has_triple_among}
use Rattle.dependency_tables.specs.Tables.{is_among, is_in_tables}
use Rattle.goal_trimming.specs.Doubted.{AreDoubted}
use Rattle.matching_laws.specs.Telling.{AreInsertable, IsTold, with_each}
use Rattle.soar_settle.specs.Tagging.{without_each}
use Rattle.soar_settle.specs.declared.changes.Changes.{Changes}

apart : true ≡ false → ⊥
apart h = cc

neither : (a b : Bool) → (a || b) ≡ false → (a ≡ false) × (b ≡ false)
neither true b h = absurd (cc)
neither false b h = (refl, h)

same_number : (m n : ℕ) → (m == n) ≡ true → m ≡ n
same_number m n h = grind arith

itself : (n : ℕ) → (n == n) ≡ true
itself n = grind arith

-- ---- elements that went

without_other : (m n : ℕ) (elements : List Element) → (m == n) ≡ false → element_of n (without_tag m elements) ≡ element_of n elements
without_other m n [] other = refl
without_other m n (f ∷ elements) other = by (f.tag == m) refl (without_other m n elements other)
  where
    by : (b : Bool) → (f.tag == m) ≡ b → element_of n (without_tag m elements) ≡ element_of n elements
        → element_of n (cond b elements (f ∷ without_tag m elements)) ≡ cond (f.tag == n) (Some f) (element_of n elements)
    by true e later = ap (λ c. cond c (Some f) (element_of n elements)) (sym (ap (λ k. k == n) (same_number f.tag m e) ∙ other))
    by false e later = ap (cond (f.tag == n) (Some f)) later

without_others : (n : ℕ) (elements others : List Element) → is_among (map (λ (e : Element). e.tag) others) n ≡ false → element_of n (without_each elements others) ≡ element_of n elements
without_others n elements [] none = refl
without_others n elements (e ∷ others) none =
    let k = neither (e.tag == n) (is_among (map (λ (x : Element). x.tag) others) n) none in
    without_others n (without_tag e.tag elements) others k.1 ∙ without_other e.tag n elements k.0

-- ---- elements that came

with_other : (x : Element) (n : ℕ) (elements : List Element) → (x.tag == n) ≡ false → element_of n (with_element elements x) ≡ element_of n elements
with_other x n [] other = ap (λ c. cond c (Some x) None) other
with_other x n (f ∷ elements) other = by (nat_lt x.tag f.tag) (with_other x n elements other)
  where
    by : (b : Bool) → element_of n (with_element elements x) ≡ element_of n elements
        → element_of n (cond b (x ∷ f ∷ elements) (f ∷ with_element elements x)) ≡ cond (f.tag == n) (Some f) (element_of n elements)
    by true later = ap (λ c. cond c (Some x) (cond (f.tag == n) (Some f) (element_of n elements))) other
    by false later = ap (cond (f.tag == n) (Some f)) later

tag_there : (n : ℕ) (elements : List Element) (e : Element) → element_of n elements ≡ Some e → list_any (has_tag n) elements ≡ true
tag_there n [] e h = absurd (cc)
tag_there n (f ∷ elements) e h = by (f.tag == n) h (tag_there n elements e)
  where
    by : (b : Bool) → cond b (Some f) (element_of n elements) ≡ Some e → (element_of n elements ≡ Some e → list_any (has_tag n) elements ≡ true) → (b || list_any (has_tag n) elements) ≡ true
    by true k later = refl
    by false k later = later k

other_tag : (x e : Element) (n : ℕ) (elements : List Element) → element_of n elements ≡ Some e → list_any (has_tag x.tag) elements ≡ false → (x.tag == n) ≡ false
other_tag x e n elements h new = by (x.tag == n) refl
  where
    by : (b : Bool) → (x.tag == n) ≡ b → (x.tag == n) ≡ false
    by true k = absurd (apart (sym (tag_there n elements e h) ∙ ap (λ m. list_any (has_tag m) elements) (sym (same_number x.tag n k)) ∙ new))
    by false k = k

with_others : (n : ℕ) (elements others : List Element) (e : Element) → AreInsertable elements others → element_of n elements ≡ Some e → element_of n (with_each elements others) ≡ Some e
with_others n elements [] e are h = h
with_others n elements (x ∷ others) e are h =
    with_others n (with_element elements x) others e are.1 (with_other x n elements (other_tag x e n elements h are.0.new_tag) ∙ h)

-- ---- what is lost

abbrev tags_gone : Changes → List ℕ
tags_gone changes = map (λ (e : Element). e.tag) changes.gone

abbrev is_lost_of : List Triple → Option Element → Bool
is_lost_of kept o = elim o [ None ↦ true | Some e ↦ not (has_triple_among kept (triple_of e)) ]

still_there : (old new : List Element) (changes : Changes) (n : ℕ) (e : Element) → IsTold old new changes → is_among (map (λ (x : Element). x.tag) changes.gone) n ≡ false → element_of n old ≡ Some e
    → element_of n new ≡ Some e
still_there old new changes n e told none h =
    ap (element_of n) (sym told.whole) ∙ with_others n (without_each old changes.gone) changes.new e told.insertable (without_others n old changes.gone none ∙ h)

-- where nothing is lost, only elements that went are gone behind
pub gone_doubted : (tables : List (List ℕ)) (old new : List Element) (kept : List Triple) (changes : Changes) → IsTold old new changes → AreDoubted tables old kept []
    → AreDoubted tables new kept (map (λ (e : Element). e.tag) changes.gone)
gone_doubted tables old new kept changes told whole n i lost = by (is_among (tags_gone changes) n) refl
  where
    was : is_among (tags_gone changes) n ≡ false → (o : Option Element) → element_of n old ≡ o → is_lost old kept n ≡ true
    was none None h = ap (is_lost_of kept) h
    was none (Some e) h = ap (is_lost_of kept) (h ∙ sym (still_there old new changes n e told none h)) ∙ lost

    by : (b : Bool) → is_among (tags_gone changes) n ≡ b → is_among (tags_gone changes) n ≡ true
    by true k = k
    by false k = absurd (apart (sym (whole n i (was k (element_of n old) refl))))
