-- Entries in order of tag, and what changes of the entries make of them.
use Rattle.std.proofs.Common.{◌≡◌, ℕ, Bool, true, false, cond, ◌&&◌, T, [], ◌∷◌, Some, None, nat_eq, refl, sym, ap, ap₂, subst, ◌∙◌}
use Rattle.std.specs.BTreeMap.{is_at, insert_entry}
use Rattle.std.specs.Cmp.{eq_by_cmp_equiv, nat_cmp_total, nat_eq_equiv, unsigned_tied}
use Rattle.std.specs.FinMap.Entries.{by_order, below_all, find, find-put, is_sorted, is_sorted-put, put, same_entries}
use Rattle.std.specs.List.{AllByRecursion, IsDistinct}
use Rattle.std.specs.List.Sorted.{IsStrictlySortedBy}
use Rattle.std.specs.Map.{keys_of, values_of, lookup, remove_entry}
use Rattle.std.specs.Ordering.{eq_by_cmp, is_lt, match_ordering, nat_cmp}
use Rattle.std.specs.declared.cmp.Ordering.{Ordering}
use Rattle.std.specs.declared.cmp.Ordering.TheVariants.{Less, Equal, Greater}
use Rattle.std.proofs.lemmas.Map.{lookup-remove_entry}
use Rattle.std.proofs.lemmas.Map.Keys.{IsDistinct-from_sorted}
use Rattle.std.proofs.lemmas.Map.Lookups.{exact_unsigned}
use Rattle.soar_wm.specs.declared.element.Element.{Element}
use Rattle.soar_wm.specs.WorkingMemory.{IsRising}
use Rattle.rete_alpha.specs.Entries.{OwnTags, in_order}
use Rattle.rete_alpha.proofs.ElementLemmas.{Tagged, risen}

both : (a b : Bool) → T a → T b → T (a && b)
both true b p q = q
both false b p q = p

first : (a b : Bool) → T (a && b) → T a
first true b p = tt
first false b p = p

second : (a b : Bool) → T (a && b) → T b
second true b p = p
second false b p = absurd p

less : (o : Ordering) → T (is_lt o) → o ≡ Less
less Less p = refl
less Equal p = absurd p
less Greater p = absurd p

-- ---- they are in order

placed : (k : ℕ) (v : Element) (es : Tagged) → put nat_cmp k v es ≡ insert_entry nat_cmp es k v
placed k v [] = refl
placed k v (e ∷ es) = by (nat_cmp k e.0) (placed k v es)
  where
    by : (o : Ordering) → put nat_cmp k v es ≡ insert_entry nat_cmp es k v
        → by_order o ((k, v) ∷ e ∷ es) ((e.0, v) ∷ es) (e ∷ put nat_cmp k v es) ≡ match_ordering o ((k, v) ∷ e ∷ es) ((e.0, v) ∷ es) (e ∷ insert_entry nat_cmp es k v)
    by Less deep = refl
    by Equal deep = refl
    by Greater deep = ap (λ l. e ∷ l) deep

sorted : (es : Tagged) → T (is_sorted nat_cmp (in_order es))
sorted [] = tt
sorted (p ∷ es) = subst (λ l. T (is_sorted nat_cmp l)) (placed p.0 p.1 (in_order es)) (is_sorted-put nat_cmp nat_cmp_total p.0 p.1 (in_order es) (sorted es))

all_below : (n : ℕ) (es : Tagged) → T (below_all nat_cmp n es) → AllByRecursion (λ k. nat_cmp n k ≡ Less) (keys_of es)
all_below n [] h = tt
all_below n (e ∷ es) h = (less _ (first _ _ h), all_below n es (second _ _ h))

strictly : (es : Tagged) → T (is_sorted nat_cmp es) → IsStrictlySortedBy nat_cmp (keys_of es)
unfolding IsStrictlySortedBy
strictly [] h = tt
strictly (e ∷ es) h = (all_below e.0 es (first _ _ h), strictly es (second _ _ h))

pub all_risen : (es : Tagged) → OwnTags (in_order es) → IsRising (values_of (in_order es))
all_risen es own = risen (in_order es) own (strictly (in_order es) (sorted es))

apart : (es : Tagged) → IsDistinct (eq_by_cmp nat_cmp) (keys_of (in_order es))
apart es = IsDistinct-from_sorted nat_cmp (keys_of (in_order es)) (strictly (in_order es) (sorted es))

pub distinct : (es : Tagged) → IsDistinct nat_eq (keys_of (in_order es))
distinct es = subst (λ e. IsDistinct e (keys_of (in_order es))) (λ i x y. unsigned_tied x y i) (apart es)

-- ---- each tag has what it had

finding : (q : ℕ) (es : Tagged) → find nat_cmp q es ≡ lookup (is_at (nat_cmp q)) es
finding q [] = refl
finding q (e ∷ es) = ap (λ o. cond (is_at (nat_cmp q) e.0) (Some e.1) o) (finding q es)

looked : (es : Tagged) (q : ℕ) → find nat_cmp q (in_order es) ≡ lookup (nat_eq q) es
looked [] q = refl
looked (p ∷ es) q =
    ap (find nat_cmp q) (sym (placed p.0 p.1 (in_order es))) ∙ find-put nat_cmp nat_cmp_total q p.0 p.1 (in_order es)
    ∙ ap₂ (λ b o. cond b (Some p.1) o) (unsigned_tied q p.0) (looked es q)

pub found_in_order : (es : Tagged) (q : ℕ) → lookup (nat_eq q) es ≡ lookup (is_at (nat_cmp q)) (in_order es)
found_in_order es q = sym (looked es q) ∙ finding q (in_order es)

pub same_found : (es : Tagged) (q : ℕ) → lookup (nat_eq q) (in_order es) ≡ lookup (nat_eq q) es
same_found es q = ap (λ test. lookup test (in_order es)) (λ i x. sym (unsigned_tied q x) i) ∙ sym (found_in_order es q)

-- ---- one more, and one less

pub put_in : (es new : Tagged) (k : ℕ) (v : Element) → ((q : ℕ) → lookup (nat_eq q) new ≡ cond (nat_eq k q) (Some v) (lookup (nat_eq q) es))
    → in_order new ≡ insert_entry nat_cmp (in_order es) k v
put_in es new k v up =
    same_entries nat_cmp nat_cmp_total exact_unsigned (in_order new) (in_order ((k, v) ∷ es)) (sorted new) (sorted ((k, v) ∷ es))
    (λ q. looked new q ∙ up q ∙ ap (λ b. cond b (Some v) (lookup (nat_eq q) es)) (nat_eq_equiv.symm k q) ∙ sym (looked ((k, v) ∷ es) q))

-- the same, of a value that is equal
pub put_as : (es new : Tagged) (k : ℕ) (v w : Element) → w ≡ v → ((q : ℕ) → lookup (nat_eq q) new ≡ cond (nat_eq k q) (Some w) (lookup (nat_eq q) es))
    → in_order new ≡ insert_entry nat_cmp (in_order es) k v
put_as es new k v w same up = put_in es new k w up ∙ ap (insert_entry nat_cmp (in_order es) k) same

below_without : (n : ℕ) (test : ℕ → Bool) (es : Tagged) → T (below_all nat_cmp n es) → T (below_all nat_cmp n (remove_entry test es))
below_without n test [] h = tt
below_without n test (e ∷ es) h = by (test e.0) (below_without n test es (second _ _ h))
  where
    by : (b : Bool) → T (below_all nat_cmp n (remove_entry test es)) → T (below_all nat_cmp n (cond b es (e ∷ remove_entry test es)))
    by true deep = second _ _ h
    by false deep = both _ _ (first _ _ h) deep

sorted_without : (test : ℕ → Bool) (es : Tagged) → T (is_sorted nat_cmp es) → T (is_sorted nat_cmp (remove_entry test es))
sorted_without test [] h = tt
sorted_without test (e ∷ es) h = by (test e.0) (sorted_without test es (second _ _ h))
  where
    by : (b : Bool) → T (is_sorted nat_cmp (remove_entry test es)) → T (is_sorted nat_cmp (cond b es (e ∷ remove_entry test es)))
    by true deep = second _ _ h
    by false deep = both _ _ (below_without e.0 test es (first _ _ h)) deep

pub taken_out : (es new : Tagged) (k : ℕ) → ((q : ℕ) → lookup (nat_eq q) new ≡ cond (nat_eq k q) None (lookup (nat_eq q) es))
    → in_order new ≡ remove_entry (is_at (nat_cmp k)) (in_order es)
taken_out es new k up =
    let rest : Tagged = remove_entry (is_at (nat_cmp k)) (in_order es) in
    let equal = eq_by_cmp_equiv nat_cmp_total in
    same_entries nat_cmp nat_cmp_total exact_unsigned (in_order new) rest (sorted new) (sorted_without (is_at (nat_cmp k)) (in_order es) (sorted es))
    (λ q.
    looked new q ∙ up q ∙ ap₂ (λ b o. cond b None o) (sym (unsigned_tied k q)) (found_in_order es q)
    ∙ sym (lookup-remove_entry equal (is_at (nat_cmp k)) (equal.congr k) q (in_order es) (apart es)) ∙ sym (finding q rest))
