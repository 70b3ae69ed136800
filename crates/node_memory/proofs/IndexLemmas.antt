-- What an index of elements finds, and what a change of it leaves.
use Rattle.std.proofs.Common.{◌≡◌, ◌≢◌, ◌↔◌, ◌⊎◌, inl, inr, refl, sym, ap, ◌∙◌, Bool, true, false, cond, ◌||◌, List, [], ◌∷◌, filter, Option, eqb-true, eq-eqb}
use Rattle.std.specs.Ordering.{nat_cmp, is_eq, match_ordering, ordering_then}
use Rattle.std.specs.declared.cmp.Ordering.{Ordering}
use Rattle.std.specs.declared.cmp.Ordering.TheVariants.{Less, Equal, Greater}
use Rattle.std.specs.Cmp.{IsTotalOrder, tied_itself, unsigned_tied}
use Rattle.std.specs.BTreeMap.{is_at, insert_entry}
use Rattle.std.specs.Map.{keys_of, remove_entry}
use Rattle.std.specs.List.{list_any, AllByRecursion}
use Rattle.std.specs.List.Sorted.{IsStrictlySortedBy}
use Rattle.std.proofs.lemmas.Map.Keys.{sorted_head, sorted_tail}
use Rattle.defs_match.specs.Laws.{IsIn}
use Rattle.soar_sym.specs.declared.symbol.Sym.{Sym}
use Rattle.soar_wm.specs.declared.element.Element.{Element}
use Rattle.soar_wm.specs.WorkingMemory.{has_tag}
use Rattle.node_memory.specs.declared.key.ElementKey.{ElementKey}
use Rattle.node_memory.specs.declared.index.Marks.{Marks}
use Rattle.node_memory.specs.contracts.key.ElementKeyOrd.TheImpl.Laws as laws
use Rattle.node_memory.specs.Entries.{marks_of, element_at, elements_in}
use Rattle.node_memory.specs.Keys.{key_cmp, key_of, meets, key_meets}
use Rattle.node_memory.specs.Packed.{sym_cmp}

abbrev pub Keyed : Type 0
Keyed = List (ElementKey × Marks)

key_total : IsTotalOrder key_cmp
key_total = laws.total-law

-- ---- what is found

pub found_meets : (id : Sym) (attr value : Option Sym) (es : Keyed) → elements_in (filter (λ (p : ElementKey × Marks). key_meets id attr value p.0) es) ≡ filter (meets id attr value) (elements_in es)
found_meets id attr value [] = refl
found_meets id attr value (p ∷ es) = by (key_meets id attr value p.0) (found_meets id attr value es)
  where
    by : (b : Bool) → elements_in (filter (λ (q : ElementKey × Marks). key_meets id attr value q.0) es) ≡ filter (meets id attr value) (elements_in es)
        → elements_in (cond b (p ∷ filter (λ (q : ElementKey × Marks). key_meets id attr value q.0) es) (filter (λ (q : ElementKey × Marks). key_meets id attr value q.0) es)) ≡ cond b (element_at p ∷ filter (meets id attr value) (elements_in es)) (filter (meets id attr value) (elements_in es))
    by true deep = ap (λ l. element_at p ∷ l) deep
    by false deep = deep

-- ---- one more

-- keys that compare equal have one tag
then_equal : (o q : Ordering) → ordering_then o q ≡ Equal → q ≡ Equal
then_equal Less q h = absurd (cc)
then_equal Equal q h = h
then_equal Greater q h = absurd (cc)

same_tag : (k h : ElementKey) → key_cmp k h ≡ Equal → k.tag ≡ h.tag
same_tag k h e =
    let tags : Ordering = nat_cmp k.tag h.tag in
    let values : Ordering = ordering_then (sym_cmp k.value h.value) tags in
    let attrs : Ordering = ordering_then (sym_cmp k.attr h.attr) values in
    let last : tags ≡ Equal = then_equal (sym_cmp k.value h.value) tags (then_equal (sym_cmp k.attr h.attr) values (then_equal (sym_cmp k.id h.id) attrs e)) in
    eqb-true k.tag h.tag (sym (unsigned_tied k.tag h.tag) ∙ ap is_eq last)

pub in_inserted : (es : Keyed) (e : Element) → list_any (has_tag e.tag) (elements_in es) ≡ false → (x : Element) → IsIn x (elements_in (insert_entry key_cmp es (key_of e) (marks_of e))) ↔ ((e ≡ x) ⊎ IsIn x (elements_in es))
in_inserted [] e new x = ((λ h. h), λ h. h)
in_inserted (p ∷ es) e new x = by (key_cmp (key_of e) p.0) refl (has_tag e.tag (element_at p)) refl (λ n. in_inserted es e n x) new
  where
    by : (o : Ordering) → key_cmp (key_of e) p.0 ≡ o → (h : Bool) → has_tag e.tag (element_at p) ≡ h
        → (list_any (has_tag e.tag) (elements_in es) ≡ false → IsIn x (elements_in (insert_entry key_cmp es (key_of e) (marks_of e))) ↔ ((e ≡ x) ⊎ IsIn x (elements_in es)))
        → h || list_any (has_tag e.tag) (elements_in es) ≡ false
        → IsIn x (elements_in (match_ordering o ((key_of e, marks_of e) ∷ p ∷ es) ((p.0, marks_of e) ∷ es) (p ∷ insert_entry key_cmp es (key_of e) (marks_of e)))) ↔ ((e ≡ x) ⊎ ((element_at p ≡ x) ⊎ IsIn x (elements_in es)))
    by o is true tag deep new = absurd (cc)
    by Less is false tag deep new = ((λ h. h), λ h. h)
    by Equal is false tag deep new = (let bad : true ≡ false = sym (eq-eqb p.0.tag e.tag (sym (same_tag (key_of e) p.0 is))) ∙ tag in absurd (cc))
    by Greater is false tag deep new = (
      (λ h. elim h [ inl e ↦ inr (inl e) | inr i ↦ elim ((deep new).0 i) [ inl e ↦ inl e | inr j ↦ inr (inr j) ] ]),
      (λ h. elim h [ inl e ↦ inr ((deep new).1 (inl e)) | inr k ↦ elim k [ inl e ↦ inl e | inr j ↦ inr ((deep new).1 (inr j)) ] ]),
    )

-- ---- one less

above_all : (es : Keyed) (k : ElementKey) (x : Element) → AllByRecursion (λ h. key_cmp k h ≡ Less) (keys_of es) → IsIn x (elements_in es) → key_cmp k (key_of x) ≡ Less
above_all [] k x above h = absurd h
above_all (p ∷ es) k x above (inl e) = ap (λ (y : Element). key_cmp k (key_of y)) (sym e) ∙ above.0
above_all (p ∷ es) k x above (inr h) = above_all es k x above.1 h

equal_told : (o : Ordering) → is_eq o ≡ true → o ≡ Equal
equal_told Equal h = refl
equal_told Less h = absurd (cc)
equal_told Greater h = absurd (cc)

-- what stays
pub stays : (es : Keyed) (e x : Element) → IsIn x (elements_in es) → x.tag ≢ e.tag → IsIn x (elements_in (remove_entry (is_at (key_cmp (key_of e))) es))
stays [] e x h ne = absurd h
stays (p ∷ es) e x h ne = by (is_at (key_cmp (key_of e)) p.0) refl h (λ i. stays es e x i ne)
  where
    by : (b : Bool) → is_at (key_cmp (key_of e)) p.0 ≡ b → (element_at p ≡ x) ⊎ IsIn x (elements_in es) → (IsIn x (elements_in es) → IsIn x (elements_in (remove_entry (is_at (key_cmp (key_of e))) es)))
        → IsIn x (elements_in (cond b es (p ∷ remove_entry (is_at (key_cmp (key_of e))) es)))
    by true at (inl same) deep =
        absurd (ne (sym (ap (λ (y : Element). y.tag) same) ∙ sym (same_tag (key_of e) p.0 (equal_told (key_cmp (key_of e) p.0) at))))
    by true at (inr i) deep = i
    by false at (inl same) deep = inl same
    by false at (inr i) deep = inr (deep i)

-- what is left was there, and has another key
pub left : (es : Keyed) (e x : Element) → IsStrictlySortedBy key_cmp (keys_of es) → IsIn x (elements_in (remove_entry (is_at (key_cmp (key_of e))) es)) → IsIn x (elements_in es) × (key_of e ≢ key_of x)
left [] e x s h = absurd h
left (p ∷ es) e x s h = by (is_at (key_cmp (key_of e)) p.0) refl (left es e x (sorted_tail key_cmp p.0 (keys_of es) s)) h
  where
    itself : (k h : ElementKey) → k ≡ h → key_cmp k h ≡ Equal
    itself k h same = ap (key_cmp k) (sym same) ∙ tied_itself key_total k

    by : (b : Bool) → is_at (key_cmp (key_of e)) p.0 ≡ b → (IsIn x (elements_in (remove_entry (is_at (key_cmp (key_of e))) es)) → IsIn x (elements_in es) × (key_of e ≢ key_of x))
        → IsIn x (elements_in (cond b es (p ∷ remove_entry (is_at (key_cmp (key_of e))) es))) → IsIn x (element_at p ∷ elements_in es) × (key_of e ≢ key_of x)
    by true at deep i =
        let above : key_cmp p.0 (key_of x) ≡ Less = above_all es p.0 x (sorted_head key_cmp p.0 (keys_of es) s) i in
        let tied : key_cmp (key_of e) (key_of x) ≡ key_cmp p.0 (key_of x) = key_total.congr (key_of e) p.0 (key_of x) (equal_told (key_cmp (key_of e) p.0) at) in
        (inr i, λ same. (let bad : Equal ≡ Less = sym (itself (key_of e) (key_of x) same) ∙ tied ∙ above in absurd (cc)))
    by false at deep (inl same) = (
      inl same,
      λ keys. (
          let bad : true ≡ false = ap is_eq (sym (itself (key_of e) p.0 (keys ∙ ap key_of (sym same)))) ∙ at in
          absurd (cc)),
    )
    by false at deep (inr i) = (let d = deep i in (inr d.0, d.1))
