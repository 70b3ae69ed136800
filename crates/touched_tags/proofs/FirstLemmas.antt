-- The element that has a triple.
use Rattle.std.proofs.Common.{◌≡◌, ◌∙◌, refl, sym, ap, ap₂, subst, ℕ, ◌<◌, ◌==◌, Bool, true, false, cond, not, ◌&&◌, ◌||◌, ◌⊎◌, inl, inr, arith, List, [], ◌∷◌, map, Some, None, is_some}
use Rattle.soar_sym.specs.declared.symbol.Triple.{Triple}
use Rattle.soar_wm.specs.declared.element.Element.{Element}
use Rattle.soar_wm.specs.WorkingMemory.{IsBelow, IsDistinct, IsRising, Lacks, element_of, has_triple, tag_of, triple_of}
use Rattle.defs_soar.specs.declared.goal.Goal.{Goal}
use Rattle.defs_soar.specs.Laws.{IsIn}
use Rattle.defs_soar.specs.Values.{has_triple_among}
use Rattle.settling_laws.proofs.SlotLemmas.{triple_itself}
use Rattle.touched_tags.specs.Looked.{comes, first_with, is_flagged, is_standing}
use Rattle.touched_tags.proofs.MemoryLemmas.{has_as_equal}
use Rattle.touched_tags.proofs.MemberLemmas.{same_some}
use Rattle.touched_tags.proofs.MemoryLemmas.{below_apart, itself}
use Rattle.soar_settle.proofs.TripleOrderLemmas.{triple_same}

-- ---- found by tag

below_found : (b : ℕ) (t : Triple) (elements : List Element) (tag : ℕ) → IsBelow b elements → tag_of t elements ≡ Some tag → b < tag
below_found b t [] tag below h = absurd (cc)
below_found b t (e ∷ elements) tag below h = by (has_triple t e) h (below_found b t elements tag below.1)
  where
    by : (c : Bool) → cond c (Some e.tag) (tag_of t elements) ≡ Some tag → (tag_of t elements ≡ Some tag → b < tag) → b < tag
    by true k later = subst (λ n. b < n) (same_some e.tag tag k) below.0
    by false k later = later k

pub first_by_tag : (t : Triple) (elements : List Element) (tag : ℕ) → IsRising elements → tag_of t elements ≡ Some tag → element_of tag elements ≡ first_with t elements
first_by_tag t [] tag rising h = absurd (cc)
first_by_tag t (e ∷ elements) tag rising h = by (has_triple t e) h (first_by_tag t elements tag rising.1)
  where
    by : (c : Bool) → cond c (Some e.tag) (tag_of t elements) ≡ Some tag → (tag_of t elements ≡ Some tag → element_of tag elements ≡ first_with t elements)
        → cond (e.tag == tag) (Some e) (element_of tag elements) ≡ cond c (Some e) (first_with t elements)
    by true k later = ap (λ n. cond (e.tag == n) (Some e) (element_of n elements)) (sym (same_some e.tag tag k)) ∙ ap (λ c. cond c (Some e) (element_of e.tag elements)) (itself e.tag)
    by false k later = ap (λ c. cond c (Some e) (element_of tag elements)) (below_apart e.tag tag (below_found e.tag t elements tag rising.0 k)) ∙ later k

pub first_missing : (t : Triple) (elements : List Element) → tag_of t elements ≡ None → first_with t elements ≡ None
first_missing t [] h = refl
first_missing t (e ∷ elements) h = by (has_triple t e) h (first_missing t elements)
  where
    by : (c : Bool) → cond c (Some e.tag) (tag_of t elements) ≡ None → (tag_of t elements ≡ None → first_with t elements ≡ None) → cond c (Some e) (first_with t elements) ≡ None
    by true k later = absurd (cc)
    by false k later = later k

-- ---- what it is

pub first_is : (t : Triple) (elements : List Element) (e : Element) → first_with t elements ≡ Some e → IsIn e elements × (triple_of e ≡ t)
first_is t [] e h = absurd (cc)
first_is t (f ∷ elements) e h = by (has_triple t f) refl h (first_is t elements e)
  where
    by : (c : Bool) → has_triple t f ≡ c → cond c (Some f) (first_with t elements) ≡ Some e → (first_with t elements ≡ Some e → IsIn e elements × (triple_of e ≡ t))
        → ((f ≡ e) ⊎ IsIn e elements) × (triple_of e ≡ t)
    by true k i later = let is = same_some f e i in (inl is, ap triple_of (sym is) ∙ triple_same (triple_of f) t k)
    by false k i later = let there = later i in (inr there.0, there.1)

-- what comes of a triple that an element has is told by that element
pub comes_with : (goals : List Goal) (kept : List Triple) (elements : List Element) (t : Triple) (e : Element) → first_with t elements ≡ Some e
    → comes goals kept elements t ≡ (has_triple_among kept (triple_of e) && not (is_flagged goals e))
comes_with goals kept elements t e h = ap₂ (λ u o. has_triple_among kept u && not (is_standing goals o)) (sym (first_is t elements e h).1) h

pub found_when : (t : Triple) (elements : List Element) → has_triple_among (map triple_of elements) t ≡ is_some (first_with t elements)
found_when t [] = refl
found_when t (e ∷ elements) =
    ap (λ b. b || has_triple_among (map triple_of elements) t) (sym (has_as_equal t e))
    ∙ by (has_triple t e) (found_when t elements)
  where
    by : (b : Bool) → has_triple_among (map triple_of elements) t ≡ is_some (first_with t elements)
        → (b || has_triple_among (map triple_of elements) t) ≡ is_some (cond b (Some e) (first_with t elements))
    by true h = refl
    by false h = h

lacks_in : (t : Triple) (elements : List Element) (e : Element) → Lacks t elements → IsIn e elements → has_triple t e ≡ false
lacks_in t [] e lacks i = absurd i
lacks_in t (f ∷ elements) e lacks (inl q) = ap (has_triple t) (sym q) ∙ lacks.0
lacks_in t (f ∷ elements) e lacks (inr i) = lacks_in t elements e lacks.1 i

has_itself : (e : Element) → has_triple (triple_of e) e ≡ true
has_itself e = triple_itself (triple_of e)

pub in_is_first : (e : Element) (elements : List Element) → IsDistinct elements → IsIn e elements → first_with (triple_of e) elements ≡ Some e
in_is_first e [] distinct i = absurd i
in_is_first e (f ∷ elements) distinct (inl q) =
    ap (λ c. cond c (Some f) (first_with (triple_of e) elements)) (ap (has_triple (triple_of e)) q ∙ has_itself e) ∙ ap Some q
in_is_first e (f ∷ elements) distinct (inr i) = by (has_triple (triple_of e) f) refl (in_is_first e elements distinct.1 i)
  where
    apart : true ≡ false → ⊥
    apart k = cc

    by : (c : Bool) → has_triple (triple_of e) f ≡ c → first_with (triple_of e) elements ≡ Some e → cond c (Some f) (first_with (triple_of e) elements) ≡ Some e
    by true k later =
        absurd (apart (sym (has_itself e) ∙ ap (λ t. has_triple t e) (sym (triple_same (triple_of f) (triple_of e) k)) ∙ lacks_in (triple_of f) elements e distinct.0 i))
    by false k later = later

pub below_in : (b : ℕ) (elements : List Element) (e : Element) → IsBelow b elements → IsIn e elements → b < e.tag
below_in b [] e below i = absurd i
below_in b (f ∷ elements) e below (inl q) = subst (λ x. b < x.tag) q below.0
below_in b (f ∷ elements) e below (inr i) = below_in b elements e below.1 i

pub in_at_tag : (e : Element) (elements : List Element) → IsRising elements → IsIn e elements → element_of e.tag elements ≡ Some e
in_at_tag e [] rising i = absurd i
in_at_tag e (f ∷ elements) rising (inl q) =
    ap (λ c. cond c (Some f) (element_of e.tag elements)) (ap (λ g. g.tag == e.tag) q ∙ itself e.tag) ∙ ap Some q
in_at_tag e (f ∷ elements) rising (inr i) =
    ap (λ c. cond c (Some f) (element_of e.tag elements)) (below_apart f.tag e.tag (below_in f.tag elements e rising.0 i)) ∙ in_at_tag e elements rising.1 i

pub at_tag_in : (tag : ℕ) (elements : List Element) (e : Element) → element_of tag elements ≡ Some e → IsIn e elements × (e.tag ≡ tag)
at_tag_in tag [] e h = absurd (cc)
at_tag_in tag (f ∷ elements) e h = by (f.tag == tag) refl h (at_tag_in tag elements e)
  where
    same_number : (m n : ℕ) → (m == n) ≡ true → m ≡ n
    same_number m n k = grind arith

    by : (c : Bool) → (f.tag == tag) ≡ c → cond c (Some f) (element_of tag elements) ≡ Some e → (element_of tag elements ≡ Some e → IsIn e elements × (e.tag ≡ tag))
        → ((f ≡ e) ⊎ IsIn e elements) × (e.tag ≡ tag)
    by true k i later = let is = same_some f e i in (inl is, ap (λ g. g.tag) (sym is) ∙ same_number f.tag tag k)
    by false k i later = let there = later i in (inr there.0, there.1)
