-- Elements under the keys of a map by tag, and one element more.
use Rattle.std.proofs.Common.{◌≡◌, ◌≢◌, ℕ, ◌<◌, Bool, true, false, true≢false, ◌&&◌, ◌==◌, cond, List, [], ◌∷◌, ◌++◌, Option, Some, None, is_some, unwrap_or, filter_map, refl, sym, ap, ap₂, subst, ◌∙◌, arith}
use Rattle.std.specs.BTreeMap.{insert_entry}
use Rattle.std.specs.List.{cons_option}
use Rattle.std.specs.Ordering.{is_eq, nat_cmp, match_ordering}
use Rattle.std.specs.declared.cmp.Ordering.TheVariants.{Greater}
use Rattle.soar_sym.specs.declared.symbol.Triple.{Triple}
use Rattle.soar_wm.specs.declared.element.Element.{Element}
use Rattle.soar_wm.specs.Shelf.{blank, element_at, Place, Tags, Triples, Ids, listed, IsStored, at_tag, at_id, place_of, cell_of, has_place, mark_at, IsShelf, is_id_of, Puts}
use Rattle.soar_wm.specs.WorkingMemory.{has_triple, tag_of, has_tag, element_of, triple_of, IsBelow, IsGiven}
use Rattle.soar_wm.proofs.KeyLemmas.{nat_same, nat_turned, nat_is, triple_is}

pub some_at : (cells : ℕ → Option Element) (key : ℕ) → is_some (cells key) ≡ true → Some (element_at cells key) ≡ cells key
some_at cells key there = by (cells key) there
  where
    by : (o : Option Element) → is_some o ≡ true → Some (unwrap_or o blank) ≡ o
    by None h = cc
    by (Some e) h = refl

-- ---- by tag

pub same_tag : (cells : ℕ → Option Element) (tag n key : ℕ) → (element_at cells key).tag ≡ n → has_tag tag (element_at cells key) ≡ is_eq (nat_cmp tag n)
same_tag cells tag n key is = ap (λ m. m == tag) is ∙ nat_turned n tag ∙ sym (nat_same tag n)

pub found : (cells : ℕ → Option Element) (tags : Tags) (tag : ℕ) → IsStored cells tags → cell_of cells (at_tag tags tag) ≡ element_of tag (listed cells tags)
found cells [] tag stored = refl
found cells (e ∷ tags) tag stored =
    by (is_eq (nat_cmp tag e.0)) (found cells tags tag stored.2)
    ∙ sym (ap (λ b. cond b (Some (element_at cells e.1)) (element_of tag (listed cells tags))) (same_tag cells tag e.0 e.1 stored.1))
  where
    by : (b : Bool) → cell_of cells (at_tag tags tag) ≡ element_of tag (listed cells tags) → cell_of cells (cond b (Some e.1) (at_tag tags tag)) ≡ cond b (Some (element_at cells e.1)) (element_of tag (listed cells tags))
    by true h = sym (some_at cells e.1 stored.0)
    by false h = h

-- what a tag finds is there, and of that tag
pub stored_at : (cells : ℕ → Option Element) (tags : Tags) (tag key : ℕ) → IsStored cells tags → at_tag tags tag ≡ Some key → (is_some (cells key) ≡ true) × ((element_at cells key).tag ≡ tag)
stored_at cells [] tag key stored at = cc
stored_at cells (e ∷ tags) tag key stored at = by (is_eq (nat_cmp tag e.0)) refl at (λ h. stored_at cells tags tag key stored.2 h)
  where
    by : (b : Bool) → is_eq (nat_cmp tag e.0) ≡ b → cond b (Some e.1) (at_tag tags tag) ≡ Some key → (at_tag tags tag ≡ Some key → (is_some (cells key) ≡ true) × ((element_at cells key).tag ≡ tag)) → (is_some (cells key) ≡ true) × ((element_at cells key).tag ≡ tag)
    by true same h later =
        let k : e.1 ≡ key = ap (λ o. unwrap_or o 0) h in
        let n : tag ≡ e.0 = nat_is tag e.0 (sym (nat_same tag e.0) ∙ same) in
        (ap (λ x. is_some (cells x)) (sym k) ∙ stored.0, ap (λ x. (element_at cells x).tag) (sym k) ∙ stored.1 ∙ sym n)
    by false same h later = later h

-- ---- all

pub all_found : (cells : ℕ → Option Element) (tags : Tags) → IsStored cells tags → filter_map (λ e. cells e.1) tags ≡ listed cells tags
all_found cells [] stored = refl
all_found cells (e ∷ tags) stored =
    ap (λ o. cons_option o (filter_map (λ e. cells e.1) tags)) (sym (some_at cells e.1 stored.0)) ∙ ap (λ es. element_at cells e.1 ∷ es) (all_found cells tags stored.2)

-- ---- a key that has no element, and now has one

abbrev pub SameBut : (ℕ → Option Element) → (ℕ → Option Element) → ℕ → Type 0
SameBut old new key = (other : ℕ) → other ≢ key → new other ≡ old other

not_fresh : (cells : ℕ → Option Element) (key k : ℕ) → cells key ≡ None → is_some (cells k) ≡ true → k ≢ key
not_fresh cells key k fresh there is = true≢false (sym there ∙ ap (λ n. is_some (cells n)) is ∙ ap is_some fresh)

pub stored_push : (old new : ℕ → Option Element) (tags : Tags) (key : ℕ) (e : Element) → IsStored old tags → old key ≡ None → new key ≡ Some e → SameBut old new key
    → IsStored new (tags ++ (e.tag, key) ∷ []) × (listed new (tags ++ (e.tag, key) ∷ []) ≡ listed old tags ++ e ∷ [])
stored_push old new [] key e stored fresh now others = ((ap is_some now, ap (λ o. (unwrap_or o blank).tag) now, tt), ap (λ o. unwrap_or o blank ∷ []) now)
stored_push old new (t ∷ tags) key e stored fresh now others =
    let later = stored_push old new tags key e stored.2 fresh now others in
    let same : new t.1 ≡ old t.1 = others t.1 (not_fresh old key t.1 fresh stored.0) in (
      (ap is_some same ∙ stored.0, ap (λ o. (unwrap_or o blank).tag) same ∙ stored.1, later.0),
      ap₂ (λ o es. unwrap_or o blank ∷ es) same later.1,
    )

-- a tag above all, or below all, has no element

pub element_above : (es : List Element) (last tag : ℕ) → IsGiven last es → last < tag → element_of tag es ≡ None
element_above [] last tag given less = refl
element_above (e ∷ es) last tag given less = ap (λ b. cond b (Some e) (element_of tag es)) (apart e.tag tag (omega (arith, given.1))) ∙ element_above es last tag given.2 less
  where
    apart : (m n : ℕ) → m < n → (m == n) ≡ false
    apart m n h = grind arith

pub element_below : (tag : ℕ) (es : List Element) → IsBelow tag es → element_of tag es ≡ None
element_below tag [] below = refl
element_below tag (e ∷ es) below = ap (λ b. cond b (Some e) (element_of tag es)) (apart e.tag tag below.0) ∙ element_below tag es below.1
  where
    apart : (m n : ℕ) → n < m → (m == n) ≡ false
    apart m n h = grind arith

-- a tag above all goes to the end

greater : (m n : ℕ) → n < m → nat_cmp m n ≡ Greater
greater m n h = grind arith

pub at_end : (cells : ℕ → Option Element) (tags : Tags) (last tag key : ℕ) → IsStored cells tags → IsGiven last (listed cells tags) → last < tag → insert_entry nat_cmp tags tag key ≡ tags ++ (tag, key) ∷ []
at_end cells [] last tag key stored given less = refl
at_end cells (t ∷ tags) last tag key stored given less =
    ap (λ o. match_ordering o ((tag, key) ∷ t ∷ tags) ((t.0, key) ∷ tags) (t ∷ insert_entry nat_cmp tags tag key)) (greater tag t.0 (omega (arith, given.1, stored.1)))
    ∙ ap (λ es. t ∷ es) (at_end cells tags last tag key stored.2 given.2 less)

-- ---- the other maps

abbrev or_else : {X : Type 0} → Option X → Option X → Option X
or_else (Some x) o = Some x
or_else None o = o

tag_push : (t : Triple) (es : List Element) (e : Element) → tag_of t (es ++ e ∷ []) ≡ or_else (tag_of t es) (cond (has_triple t e) (Some e.tag) None)
tag_push t [] e = refl
tag_push t (x ∷ es) e = by (has_triple t x) (tag_push t es e)
  where
    by : (b : Bool) → tag_of t (es ++ e ∷ []) ≡ or_else (tag_of t es) (cond (has_triple t e) (Some e.tag) None)
        → cond b (Some x.tag) (tag_of t (es ++ e ∷ [])) ≡ or_else (cond b (Some x.tag) (tag_of t es)) (cond (has_triple t e) (Some e.tag) None)
    by true h = refl
    by false h = h

tag_new : (t : Triple) (es : List Element) (e : Element) → tag_of (triple_of e) es ≡ None → cond (has_triple t e) (Some e.tag) (tag_of t es) ≡ tag_of t (es ++ e ∷ [])
tag_new t es e none = by (has_triple t e) refl ∙ sym (tag_push t es e)
  where
    alone : (o p : Option ℕ) → o ≡ None → p ≡ or_else o p
    alone o p h = sym (ap (λ x. or_else x p) h)

    rest : (o : Option ℕ) → o ≡ or_else o None
    rest None = refl
    rest (Some x) = refl

    by : (b : Bool) → has_triple t e ≡ b → cond b (Some e.tag) (tag_of t es) ≡ or_else (tag_of t es) (cond b (Some e.tag) None)
    by true h = alone (tag_of t es) (Some e.tag) (sym (ap (λ u. tag_of u es) (triple_is t e h)) ∙ none)
    by false h = rest (tag_of t es)

element_push : (tag : ℕ) (es : List Element) (e : Element) → element_of tag (es ++ e ∷ []) ≡ or_else (element_of tag es) (cond (has_tag tag e) (Some e) None)
element_push tag [] e = refl
element_push tag (x ∷ es) e = by (has_tag tag x) (element_push tag es e)
  where
    by : (b : Bool) → element_of tag (es ++ e ∷ []) ≡ or_else (element_of tag es) (cond (has_tag tag e) (Some e) None)
        → cond b (Some x) (element_of tag (es ++ e ∷ [])) ≡ or_else (cond b (Some x) (element_of tag es)) (cond (has_tag tag e) (Some e) None)
    by true h = refl
    by false h = h

id_new : (es : List Element) (e : Element) (q : Place × ℕ) → element_of e.tag es ≡ None → cond (is_id_of e q) (Some tt) (mark_at q.0 (element_of q.1 es)) ≡ mark_at q.0 (element_of q.1 (es ++ e ∷ []))
id_new es e q none = by (has_tag q.1 e) refl ∙ sym (ap (mark_at q.0) (element_push q.1 es e))
  where
    here : (s : Bool) → cond (s && true) (Some tt) (mark_at q.0 None) ≡ cond s (Some tt) None
    here true = refl
    here false = refl

    there : (s : Bool) (o : Option Element) → cond (s && false) (Some tt) (mark_at q.0 o) ≡ mark_at q.0 (or_else o None)
    there true None = refl
    there true (Some x) = refl
    there false None = refl
    there false (Some x) = refl

    by : (b : Bool) → has_tag q.1 e ≡ b → cond (has_place q.0 e && b) (Some tt) (mark_at q.0 (element_of q.1 es)) ≡ mark_at q.0 (or_else (element_of q.1 es) (cond b (Some e) None))
    by true h =
        let nothing : element_of q.1 es ≡ None = sym (ap (λ n. element_of n es) (nat_is e.tag q.1 h)) ∙ none in
        ap (λ o. cond (has_place q.0 e && true) (Some tt) (mark_at q.0 o)) nothing ∙ here (has_place q.0 e) ∙ sym (ap (λ o. mark_at q.0 (or_else o (Some e))) nothing)
    by false h = there (has_place q.0 e) (element_of q.1 es)

-- one element more on the shelf
pub shelf_push : (old new : ℕ → Option Element) (tags new_tags : Tags) (triples new_triples : Triples) (ids new_ids : Ids) (last key : ℕ) (e : Element) → IsShelf old tags triples ids → IsGiven last (listed old tags) → last < e.tag
    → tag_of (triple_of e) (listed old tags) ≡ None → old key ≡ None → new key ≡ Some e → SameBut old new key → new_tags ≡ insert_entry nat_cmp tags e.tag key → Puts e (Some e.tag) triples new_triples ids new_ids
    → IsShelf new new_tags new_triples new_ids × (listed new new_tags ≡ listed old tags ++ e ∷ [])
shelf_push old new tags new_tags triples new_triples ids new_ids last key e shelf given less none fresh now others is puts =
    let end : new_tags ≡ tags ++ (e.tag, key) ∷ [] = is ∙ at_end old tags last e.tag key shelf.stored given less in
    let pushed = stored_push old new tags key e shelf.stored fresh now others in
    let list : listed new new_tags ≡ listed old tags ++ e ∷ [] = ap (listed new) end ∙ pushed.1 in (
      record {
        stored = subst (IsStored new) (sym end) pushed.0;
        by_triple = λ t. puts.by_triple t ∙ ap (λ o. cond (has_triple t e) (Some e.tag) o) (shelf.by_triple t) ∙ tag_new t (listed old tags) e none ∙ sym (ap (tag_of t) list);
        by_id = λ q.
            puts.by_id q ∙ ap (λ o. cond (is_id_of e q) (Some tt) o) (shelf.by_id q) ∙ id_new (listed old tags) e q (element_above (listed old tags) last e.tag given less)
            ∙ sym (ap (λ es. mark_at q.0 (element_of q.1 es)) list);
      },
      list,
    )

-- nothing is at the element's places
pub no_place : (cells : ℕ → Option Element) (tags : Tags) (triples : Triples) (ids : Ids) (last : ℕ) (e : Element) → IsShelf cells tags triples ids → IsGiven last (listed cells tags) → last < e.tag → at_id ids (place_of e.id, e.tag) ≡ None
no_place cells tags triples ids last e shelf given less = shelf.by_id (place_of e.id, e.tag) ∙ ap (mark_at (place_of e.id)) (element_above (listed cells tags) last e.tag given less)

-- an index that was put back
pub shelf_back : (cells : ℕ → Option Element) (tags : Tags) (triples new_triples : Triples) (ids new_ids : Ids) (last : ℕ) (e : Element) → IsShelf cells tags triples ids → IsGiven last (listed cells tags) → last < e.tag
    → tag_of (triple_of e) (listed cells tags) ≡ None → Puts e None triples new_triples ids new_ids → IsShelf cells tags new_triples new_ids
shelf_back cells tags triples new_triples ids new_ids last e shelf given less none puts = record {
  stored = shelf.stored;
  by_triple = λ t. puts.by_triple t ∙ ap (λ o. cond (has_triple t e) None o) (shelf.by_triple t) ∙ triple (has_triple t e) t refl;
  by_id = λ q. puts.by_id q ∙ ap (λ o. cond (is_id_of e q) None o) (shelf.by_id q) ∙ id q (has_tag q.1 e) refl;
}
  where
    triple : (b : Bool) (t : Triple) → has_triple t e ≡ b → cond b None (tag_of t (listed cells tags)) ≡ tag_of t (listed cells tags)
    triple true t h = sym (sym (ap (λ u. tag_of u (listed cells tags)) (triple_is t e h)) ∙ none)
    triple false t h = refl

    gone : (s : Bool) (place : Place) → cond (s && true) None (mark_at place None) ≡ None
    gone true place = refl
    gone false place = refl

    kept : (s : Bool) (o : Option (Unit {0})) → cond (s && false) None o ≡ o
    kept true o = refl
    kept false o = refl

    id : (q : Place × ℕ) (b : Bool) → has_tag q.1 e ≡ b → cond (has_place q.0 e && b) None (mark_at q.0 (element_of q.1 (listed cells tags))) ≡ mark_at q.0 (element_of q.1 (listed cells tags))
    id q true h =
        let nothing : element_of q.1 (listed cells tags) ≡ None = sym (ap (λ n. element_of n (listed cells tags)) (nat_is e.tag q.1 h)) ∙ element_above (listed cells tags) last e.tag given less in
        ap (λ o. cond (has_place q.0 e && true) None (mark_at q.0 o)) nothing ∙ gone (has_place q.0 e) q.0 ∙ sym (ap (mark_at q.0) nothing)
    id q false h = kept (has_place q.0 e) (mark_at q.0 (element_of q.1 (listed cells tags)))
