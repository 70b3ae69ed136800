-- One element less.
use Rattle.std.proofs.Common.{◌≡◌, ◌≢◌, ℕ, ◌<◌, Bool, true, false, true≢false, ◌&&◌, ◌==◌, cond, List, [], ◌∷◌, Option, Some, None, is_some, unwrap_or, refl, sym, ap, ap₂, subst, ◌∙◌, arith}
use Rattle.std.specs.Map.{remove_entry}
use Rattle.std.specs.BTreeMap.{is_at}
use Rattle.std.specs.Ordering.{is_eq, nat_cmp}
use Rattle.soar_sym.specs.declared.symbol.Triple.{Triple}
use Rattle.soar_wm.specs.declared.element.Element.{Element}
use Rattle.soar_wm.specs.Shelf.{blank, element_at, Place, Tags, Triples, Ids, listed, IsStored, at_tag, cell_of, has_place, mark_at, IsShelf, is_id_of, Puts}
use Rattle.soar_wm.specs.WorkingMemory.{has_triple, tag_of, has_tag, element_of, without_tag, IsBelow, IsRising, Lacks, IsDistinct}
use Rattle.soar_wm.proofs.KeyLemmas.{nat_same, nat_turned, nat_is, triple_is}
use Rattle.soar_wm.proofs.ShelfLemmas.{SameBut, found, stored_at, same_tag, element_below}

-- ---- the list

pub missed : (tag : ℕ) (es : List Element) → element_of tag es ≡ None → without_tag tag es ≡ es
missed tag [] none = refl
missed tag (e ∷ es) none = by (has_tag tag e) none (missed tag es)
  where
    by : (b : Bool) → cond b (Some e) (element_of tag es) ≡ None → (element_of tag es ≡ None → without_tag tag es ≡ es) → cond b es (e ∷ without_tag tag es) ≡ e ∷ es
    by true h later = absurd (cc)
    by false h later = ap (λ xs. e ∷ xs) (later h)

lacking : (t : Triple) (es : List Element) → Lacks t es → tag_of t es ≡ None
lacking t [] lacks = refl
lacking t (e ∷ es) lacks = ap (λ b. cond b (Some e.tag) (tag_of t es)) lacks.0 ∙ lacking t es lacks.1

lacking_one : (t : Triple) (tag : ℕ) (es : List Element) (e : Element) → Lacks t es → element_of tag es ≡ Some e → has_triple t e ≡ false
lacking_one t tag [] e lacks at = cc
lacking_one t tag (x ∷ es) e lacks at = by (has_tag tag x) at (lacking_one t tag es e lacks.1)
  where
    by : (b : Bool) → cond b (Some x) (element_of tag es) ≡ Some e → (element_of tag es ≡ Some e → has_triple t e ≡ false) → has_triple t e ≡ false
    by true h later = ap (has_triple t) (sym (ap (λ o. unwrap_or o x) h)) ∙ lacks.0
    by false h later = later h

pub tag_gone : (t : Triple) (tag : ℕ) (es : List Element) (e : Element) → IsDistinct es → element_of tag es ≡ Some e → cond (has_triple t e) None (tag_of t es) ≡ tag_of t (without_tag tag es)
tag_gone t tag [] e distinct at = cc
tag_gone t tag (x ∷ es) e distinct at = by (has_tag tag x) at (tag_gone t tag es e distinct.1)
  where
    first : (b : Bool) → has_triple t x ≡ b → cond b None (cond b (Some x.tag) (tag_of t es)) ≡ tag_of t es
    first true h = sym (lacking t es (subst (λ u. Lacks u es) (triple_is t x h) distinct.0))
    first false h = refl

    later_one : (b : Bool) → has_triple t x ≡ b → element_of tag es ≡ Some e → cond (has_triple t e) None (tag_of t es) ≡ tag_of t (without_tag tag es)
        → cond (has_triple t e) None (cond b (Some x.tag) (tag_of t es)) ≡ cond b (Some x.tag) (tag_of t (without_tag tag es))
    later_one true h at later = ap (λ b. cond b None (Some x.tag)) (lacking_one t tag es e (subst (λ u. Lacks u es) (triple_is t x h) distinct.0) at)
    later_one false h at later = later

    by : (b : Bool) → cond b (Some x) (element_of tag es) ≡ Some e → (element_of tag es ≡ Some e → cond (has_triple t e) None (tag_of t es) ≡ tag_of t (without_tag tag es))
        → cond (has_triple t e) None (tag_of t (x ∷ es)) ≡ tag_of t (cond b es (x ∷ without_tag tag es))
    by true h later = ap (λ y. cond (has_triple t y) None (tag_of t (x ∷ es))) (sym (ap (λ o. unwrap_or o x) h)) ∙ first (has_triple t x) refl
    by false h later = later_one (has_triple t x) refl h (later h)

-- ---- the map by tag

-- what is under a key of another tag is under another key
other_key : (cells : ℕ → Option Element) (k key n tag : ℕ) → (element_at cells k).tag ≡ n → (element_at cells key).tag ≡ tag → (n == tag) ≡ false → k ≢ key
other_key cells k key n tag is own apart same = true≢false (sym (self n tag (sym is ∙ ap (λ x. (element_at cells x).tag) same ∙ own)) ∙ apart)
  where
    self : (m n : ℕ) → m ≡ n → (m == n) ≡ true
    self m n h = grind arith

kept_one : (old new : ℕ → Option Element) (e : ℕ × ℕ) (tags : Tags) → is_some (old e.1) ≡ true → (element_at old e.1).tag ≡ e.0 → new e.1 ≡ old e.1 → IsStored new tags → IsStored new (e ∷ tags)
kept_one old new e tags there own same later = (ap is_some same ∙ there, ap (λ o. (unwrap_or o blank).tag) same ∙ own, later)

-- tags above this one stay
kept_all : (old new : ℕ → Option Element) (tags : Tags) (tag key : ℕ) → IsStored old tags → IsBelow tag (listed old tags) → (element_at old key).tag ≡ tag → SameBut old new key → IsStored new tags × (listed new tags ≡ listed old tags)
kept_all old new [] tag key stored below own others = (tt, refl)
kept_all old new (e ∷ tags) tag key stored below own others =
    let later = kept_all old new tags tag key stored.2 below.1 own others in
    let same : new e.1 ≡ old e.1 = others e.1 (other_key old e.1 key e.0 tag stored.1 own (apart e.0 tag (subst (λ n. tag < n) stored.1 below.0))) in
    (kept_one old new e tags stored.0 stored.1 same later.0, ap₂ (λ o es. unwrap_or o blank ∷ es) same later.1)
  where
    apart : (m n : ℕ) → n < m → (m == n) ≡ false
    apart m n h = grind arith

pub stored_gone : (old new : ℕ → Option Element) (tags : Tags) (tag key : ℕ) → IsStored old tags → IsRising (listed old tags) → at_tag tags tag ≡ Some key → SameBut old new key
    → IsStored new (remove_entry (is_at (nat_cmp tag)) tags) × (listed new (remove_entry (is_at (nat_cmp tag)) tags) ≡ without_tag tag (listed old tags))
stored_gone old new [] tag key stored rising at others = cc
stored_gone old new (e ∷ tags) tag key stored rising at others =
    subst (λ es. IsStored new (cond (is_eq (nat_cmp tag e.0)) tags (e ∷ gone)) × (listed new (cond (is_eq (nat_cmp tag e.0)) tags (e ∷ gone)) ≡ es))
    (ap (λ b. cond b (listed old tags) (element_at old e.1 ∷ without_tag tag (listed old tags))) (sym (same_tag old tag e.0 e.1 stored.1)))
    (by (is_eq (nat_cmp tag e.0)) refl at (λ h. stored_gone old new tags tag key stored.2 rising.1 h others))
  where
    gone : Tags
    gone = remove_entry (is_at (nat_cmp tag)) tags

    by : (b : Bool) → is_eq (nat_cmp tag e.0) ≡ b → cond b (Some e.1) (at_tag tags tag) ≡ Some key → (at_tag tags tag ≡ Some key → IsStored new gone × (listed new gone ≡ without_tag tag (listed old tags)))
        → IsStored new (cond b tags (e ∷ gone)) × (listed new (cond b tags (e ∷ gone)) ≡ cond b (listed old tags) (element_at old e.1 ∷ without_tag tag (listed old tags)))
    by true same h later =
        let k : e.1 ≡ key = ap (λ o. unwrap_or o 0) h in
        kept_all old new tags (element_at old e.1).tag key stored.2 rising.0 (ap (λ x. (element_at old x).tag) (sym k)) others
    by false same h later =
        let rest = later h in
        let here : new e.1 ≡ old e.1
        = others e.1 (other_key old e.1 key e.0 tag stored.1 (stored_at old tags tag key stored.2 h).1 (nat_turned e.0 tag ∙ sym (nat_same tag e.0) ∙ same)) in
        (kept_one old new e gone stored.0 stored.1 here rest.0, ap₂ (λ o es. unwrap_or o blank ∷ es) here rest.1)

-- ---- the map by identifier

element_gone : (tag : ℕ) (es : List Element) → IsRising es → element_of tag (without_tag tag es) ≡ None
element_gone tag [] rising = refl
element_gone tag (e ∷ es) rising = by (has_tag tag e) refl (element_gone tag es rising.1)
  where
    by : (b : Bool) → has_tag tag e ≡ b → element_of tag (without_tag tag es) ≡ None → element_of tag (cond b es (e ∷ without_tag tag es)) ≡ None
    by true h later = element_below tag es (subst (λ n. IsBelow n es) (nat_is e.tag tag h) rising.0)
    by false h later = ap (λ b. cond b (Some e) (element_of tag (without_tag tag es))) h ∙ later

element_other : (n tag : ℕ) (es : List Element) → (tag == n) ≡ false → element_of n (without_tag tag es) ≡ element_of n es
element_other n tag [] other = refl
element_other n tag (e ∷ es) other = by (has_tag tag e) refl (element_other n tag es other)
  where
    by : (b : Bool) → has_tag tag e ≡ b → element_of n (without_tag tag es) ≡ element_of n es → element_of n (cond b es (e ∷ without_tag tag es)) ≡ cond (has_tag n e) (Some e) (element_of n es)
    by true h later = sym (ap (λ b. cond b (Some e) (element_of n es)) (ap (λ m. m == n) (nat_is e.tag tag h) ∙ other))
    by false h later = ap (λ o. cond (has_tag n e) (Some e) o) later

id_gone : (tag : ℕ) (es : List Element) (e : Element) (q : Place × ℕ) → IsRising es → element_of tag es ≡ Some e → e.tag ≡ tag → cond (is_id_of e q) None (mark_at q.0 (element_of q.1 es)) ≡ mark_at q.0 (element_of q.1 (without_tag tag es))
id_gone tag es e q rising at own = by (has_tag q.1 e) refl
  where
    here : (s : Bool) → cond (s && true) None (cond {A = Option (Unit {0})} s (Some tt) None) ≡ None
    here true = refl
    here false = refl

    there : (s : Bool) (o : Option (Unit {0})) → cond (s && false) None o ≡ o
    there true o = refl
    there false o = refl

    by : (b : Bool) → has_tag q.1 e ≡ b → cond (has_place q.0 e && b) None (mark_at q.0 (element_of q.1 es)) ≡ mark_at q.0 (element_of q.1 (without_tag tag es))
    by true h =
        let n : tag ≡ q.1 = sym own ∙ nat_is e.tag q.1 h in
        ap (λ o. cond (has_place q.0 e && true) None (mark_at q.0 o)) (sym (ap (λ m. element_of m es) n) ∙ at) ∙ here (has_place q.0 e)
        ∙ sym (ap (mark_at q.0) (sym (ap (λ m. element_of m (without_tag tag es)) n) ∙ element_gone tag es rising))
    by false h =
        there (has_place q.0 e) (mark_at q.0 (element_of q.1 es)) ∙ sym (ap (mark_at q.0) (element_other q.1 tag es (ap (λ m. m == q.1) (sym own) ∙ h)))

pub record Gone (old new : ℕ → Option Element) (tags new_tags : Tags) (new_triples : Triples) (new_ids : Ids) (tag : ℕ) (e : Element) : Type 0 where
  pub shelf : IsShelf new new_tags new_triples new_ids
  pub list : listed new new_tags ≡ without_tag tag (listed old tags)
  pub removed : Some e ≡ element_of tag (listed old tags)

pub shelf_gone : (old new : ℕ → Option Element) (tags new_tags : Tags) (triples new_triples : Triples) (ids new_ids : Ids) (tag key : ℕ) (e : Element) → IsShelf old tags triples ids → IsRising (listed old tags) → IsDistinct (listed old tags)
    → Some key ≡ at_tag tags tag → Some e ≡ old key → SameBut old new key → new_tags ≡ remove_entry (is_at (nat_cmp tag)) tags → Puts e None triples new_triples ids new_ids → Gone old new tags new_tags new_triples new_ids tag e
shelf_gone old new tags new_tags triples new_triples ids new_ids tag key e shelf rising distinct at was others is puts =
    let rest = stored_gone old new tags tag key shelf.stored rising (sym at) others in
    let list : listed new new_tags ≡ without_tag tag (listed old tags) = ap (listed new) is ∙ rest.1 in
    let removed : element_of tag (listed old tags) ≡ Some e = sym (found old tags tag shelf.stored) ∙ ap (cell_of old) (sym at) ∙ sym was in
    let own : e.tag ≡ tag = ap (λ o. (unwrap_or o blank).tag) was ∙ (stored_at old tags tag key shelf.stored (sym at)).1 in
    record {
      shelf = record {
        stored = subst (IsStored new) (sym is) rest.0;
        by_triple = λ t. puts.by_triple t ∙ ap (λ o. cond (has_triple t e) None o) (shelf.by_triple t) ∙ tag_gone t tag (listed old tags) e distinct removed ∙ sym (ap (tag_of t) list);
        by_id = λ q.
            puts.by_id q ∙ ap (λ o. cond (is_id_of e q) None o) (shelf.by_id q) ∙ id_gone tag (listed old tags) e q rising removed own
            ∙ sym (ap (λ es. mark_at q.0 (element_of q.1 es)) list);
      };
      list = list;
      removed = sym removed;
    }
