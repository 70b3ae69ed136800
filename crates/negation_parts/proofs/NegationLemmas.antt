-- A negation keeps the rows of its parent that no row of its inside begins with; and its change from those of both.
use Rattle.std.specs.List.{list_any}
use Rattle.std.proofs.Common.{filter, cond, ◌↔◌, Option, Some, None, ◌||◌, zero, suc, ◌≡◌, refl, sym, ◌∙◌, ap, subst, true, false, [], ◌∷◌, List, ℕ, ◌++◌, Bool, ◌⊎◌, inl, inr, length, take, drop, not, ◌+◌, ◌<◌, get_or}
use Rattle.std.specs.Ordering.{nat_cmp}
use Rattle.std.specs.Cmp.Lexicographic.{slice_cmp}
use Rattle.std.specs.List.Sorted.{IsStrictlySortedBy}
use Rattle.std.specs.Map.{keys_of}
use Rattle.std.proofs.lemmas.List.{take_more, append-nil}
use Rattle.std.proofs.lemmas.Grind.{flat_map-append}
use Rattle.defs_match.specs.Laws.{IsIn}
use Rattle.defs_match.specs.Rows.{Row}
use Rattle.defs_match.specs.Testing.{Bindings}
use Rattle.node_memory.specs.Changes.{begins, OneEach, RowsChange}
use Rattle.node_memory.specs.Memories.{Found, entries_not_below, row_found, rows_in}
use Rattle.negation_parts.specs.Negations.{AllLong, is_blocked, kept, negation_come, negation_gone, fronts, freed, first_begins, found_rows, let_through}
use Rattle.node_memory.specs.Runs.{front_while}
use Rattle.node_memory.specs.Held.{Holds}
use Rattle.node_memory.proofs.BelowLemmas.{begun_run}
use Rattle.node_memory.proofs.ChangeLemmas.{in_append, in_left, in_right, in_filter, in_filter_back, in_map, in_map_back, in_flat_map, in_flat_map_back, begins_told, begins_back}

any_in : {A : Type 0} (p : A → Bool) (xs : List A) → list_any p xs ≡ true → (x : A) × IsIn x xs × (p x ≡ true)
any_in {A = A} p [] h = absurd (cc)
any_in {A = A} p (r ∷ rs) h = go (p r) refl h (any_in p rs)
  where
    go : (b : Bool) → p r ≡ b → (b || list_any p rs) ≡ true → (list_any p rs ≡ true → (x : A) × IsIn x rs × (p x ≡ true)) → (x : A) × IsIn x (r ∷ rs) × (p x ≡ true)
    go true e h deep = (r, inl refl, e)
    go false e h deep = let d = deep h in (d.0, inr d.1, d.2)

or_true : (a b : Bool) → b ≡ true → (a || b) ≡ true
or_true true b h = refl
or_true false b h = h

any_in_back : {A : Type 0} (p : A → Bool) (xs : List A) (x : A) → IsIn x xs → p x ≡ true → list_any p xs ≡ true
any_in_back p [] x i h = absurd i
any_in_back p (r ∷ rs) x (inl e) h = ap (λ b. b || list_any p rs) (ap p e ∙ h)
any_in_back p (r ∷ rs) x (inr i) h = or_true (p r) (list_any p rs) (any_in_back p rs x i h)

pub blocked_told : (inner : List Row) (x : Row) → is_blocked inner x.tags ≡ true → (z : Row) × IsIn z inner × (begins x.tags z.tags ≡ true)
blocked_told inner x h = any_in (λ (z : Row). begins x.tags z.tags) inner h

pub blocked_back : (inner : List Row) (x z : Row) → IsIn z inner → begins x.tags z.tags ≡ true → is_blocked inner x.tags ≡ true
blocked_back inner x z i h = any_in_back (λ (z : Row). begins x.tags z.tags) inner z i h

pub in_kept : (inner rows : List Row) (x : Row) → IsIn x (kept inner rows) → IsIn x rows × (is_blocked inner x.tags ≡ false)
in_kept inner rows x h =
    let found = in_filter (λ (r : Row). not (is_blocked inner r.tags)) x rows h in
    (found.0, flip (is_blocked inner x.tags) found.1)
  where
    flip : (b : Bool) → not b ≡ true → b ≡ false
    flip true e = absurd (cc)
    flip false e = refl

pub in_kept_back : (inner rows : List Row) (x : Row) → IsIn x rows → is_blocked inner x.tags ≡ false → IsIn x (kept inner rows)
in_kept_back inner rows x i h = in_filter_back (λ (r : Row). not (is_blocked inner r.tags)) x rows i (ap not h)

-- a list of n tags that begins another is its first n
front_is : (t q : List ℕ) (n : ℕ) → length t ≡ n → begins t q ≡ true → take n q ≡ t
front_is t q n l h =
    let whole : q ≡ t ++ drop (length t) q = begins_told t q h in
    ap (take n) whole ∙ ap (λ k. take k (t ++ drop (length t) q)) (sym l) ∙ take_front t (drop (length t) q)
  where
    take_front : (t r : List ℕ) → take (length t) (t ++ r) ≡ t
    take_front [] r = refl
    take_front (x ∷ t) r = ap (λ l. x ∷ l) (take_front t r)

begins_front : (q : List ℕ) (n : ℕ) → begins (take n q) q ≡ true
begins_front q n = begins_back (take n q) q (drop n q) (sym (take_drop q n))
  where
    take_drop : (q : List ℕ) (n : ℕ) → take n q ++ drop n q ≡ q
    take_drop [] zero = refl
    take_drop [] (suc n) = refl
    take_drop (x ∷ q) zero = refl
    take_drop (x ∷ q) (suc n) = ap (λ l. x ∷ l) (take_drop q n)

-- A negation's change, from that of its parent's rows and that of the rows of its inside.
pub negation_changes : (n : ℕ) (rows0 rows1 rows_come inner0 inner1 inner_come : List Row) (rows_gone inner_gone : List (List ℕ))
    → AllLong n rows0 → RowsChange rows0 rows1 rows_come rows_gone → RowsChange inner0 inner1 inner_come inner_gone
    → RowsChange (kept inner0 rows0) (kept inner1 rows1) (negation_come rows1 rows_come inner1 inner_gone) (negation_gone n rows_gone inner_come)
negation_changes n rows0 rows1 rows_come inner0 inner1 inner_come rows_gone inner_gone long rc ic = record {
  fresh = λ x h.
      let now = in_kept inner1 rows1 x h in
      elim (rc.fresh x now.0) [
        | inr i ↦ inr (in_left x (kept inner1 rows_come) (kept inner1 (freed rows1 inner_gone)) (in_kept_back inner1 rows_come x i now.1))
        | inl i ↦ was x (is_blocked inner0 x.tags) refl i now.0 now.1
      ];
  here = λ x h.
      elim (in_append x (kept inner1 rows_come) (kept inner1 (freed rows1 inner_gone)) h) [
        | inl i ↦ (let k = in_kept inner1 rows_come x i in in_kept_back inner1 rows1 x (rc.here x k.0) k.1)
        | inr i ↦ (let k = in_kept inner1 (freed rows1 inner_gone) x i in in_kept_back inner1 rows1 x (in_filter (λ (r : Row). list_any (begins r.tags) inner_gone) x rows1 k.0).0 k.1)
      ];
  lost = λ x h.
      let before = in_kept inner0 rows0 x h in
      elim (rc.lost x before.0) [
        | inr i ↦ inr (in_left x.tags rows_gone (fronts n inner_come) i)
        | inl i ↦ still x (is_blocked inner1 x.tags) refl before.0 i before.1
      ];
  away = λ x h g.
      let now = in_kept inner1 rows1 x h in
      elim (in_append x.tags rows_gone (fronts n inner_come) g) [
        | inl i ↦ rc.away x now.0 i
        | inr i ↦ (let from = in_map (λ (z : Row). take n z.tags) x.tags inner_come i in
            let bad : true ≡ false = sym (blocked_back inner1 x from.0 (ic.here from.0 from.1) (ap (λ t. begins t from.0.tags) (sym from.2) ∙ begins_front from.0.tags n)) ∙ now.1 in
            cc)
      ];
}
  where
    was : (x : Row) (b : Bool) → is_blocked inner0 x.tags ≡ b → IsIn x rows0 → IsIn x rows1 → is_blocked inner1 x.tags ≡ false
        → IsIn x (kept inner0 rows0) ⊎ IsIn x (negation_come rows1 rows_come inner1 inner_gone)
    was x false e i j free = inl (in_kept_back inner0 rows0 x i e)
    was x true e i j free =
        let z = blocked_told inner0 x e in
        elim (ic.lost z.0 z.1) [
          | inl k ↦ (let bad : true ≡ false = sym (blocked_back inner1 x z.0 k z.2) ∙ free in absurd (cc))
          | inr k ↦ inr (in_right x (kept inner1 rows_come) (kept inner1 (freed rows1 inner_gone))
              (in_kept_back inner1 (freed rows1 inner_gone) x (in_filter_back (λ (r : Row). list_any (begins r.tags) inner_gone) x rows1 j (any_in_back (begins x.tags) inner_gone z.0.tags k z.2)) free))
        ]

    still : (x : Row) (b : Bool) → is_blocked inner1 x.tags ≡ b → IsIn x rows0 → IsIn x rows1 → is_blocked inner0 x.tags ≡ false
        → IsIn x (kept inner1 rows1) ⊎ IsIn x.tags (negation_gone n rows_gone inner_come)
    still x false e i j free = inl (in_kept_back inner1 rows1 x j e)
    still x true e i j free =
        let z = blocked_told inner1 x e in
        elim (ic.fresh z.0 z.1) [
          | inl k ↦ (let bad : true ≡ false = sym (blocked_back inner0 x z.0 k z.2) ∙ free in absurd (cc))
          | inr k ↦ inr (in_right x.tags rows_gone (fronts n inner_come)
              (subst (λ t. IsIn t (fronts n inner_come)) (front_is x.tags z.0.tags n (long x i) z.2) (in_map_back (λ (z : Row). take n z.tags) z.0 inner_come k)))
        ]

pub kept_one_each : (inner rows : List Row) → OneEach rows → OneEach (kept inner rows)
kept_one_each inner rows one x y i j e = one x y (in_kept inner rows x i).0 (in_kept inner rows y j).0 e

-- ---- the test by the first key

keys_block : (t : List ℕ) (es : List ((List ℕ) × Bindings)) → list_any (λ (e : (List ℕ) × Bindings). begins t e.0) es ≡ is_blocked (rows_in es) t
keys_block t [] = refl
keys_block t (e ∷ es) = ap (λ b. begins t e.0 || b) (keys_block t es)

any_filter : {A : Type 0} (p : A → Bool) (ks : List A) → list_any p ks ≡ list_any p (filter p ks)
any_filter p [] = refl
any_filter p (k ∷ ks) = go (p k) refl (any_filter p ks)
  where
    go : (b : Bool) → p k ≡ b → list_any p ks ≡ list_any p (filter p ks) → (b || list_any p ks) ≡ list_any p (cond b (k ∷ filter p ks) (filter p ks))
    go true e deep = ap (λ c. c || list_any p (filter p ks)) (sym e)
    go false e deep = deep

first_of_run : (t : List ℕ) (es : List ((List ℕ) × Bindings)) → first_begins t es ≡ list_any (λ (e : (List ℕ) × Bindings). begins t e.0) (front_while (λ (e : (List ℕ) × Bindings). begins t e.0) es)
first_of_run t [] = refl
first_of_run t (e ∷ es) = go (begins t e.0) refl
  where
    go : (b : Bool) → begins t e.0 ≡ b → b ≡ list_any (λ (e : (List ℕ) × Bindings). begins t e.0) (cond b (e ∷ front_while (λ (e : (List ℕ) × Bindings). begins t e.0) es) [])
    go true is = ap (λ c. c || list_any (λ (e : (List ℕ) × Bindings). begins t e.0) (front_while (λ (e : (List ℕ) × Bindings). begins t e.0) es)) (sym is)
    go false is = refl

-- some key begins with t exactly where the first that is not below t does
pub first_tells : (t : List ℕ) (es : List ((List ℕ) × Bindings)) → IsStrictlySortedBy (slice_cmp nat_cmp) (keys_of es) → first_begins t (entries_not_below t es) ≡ is_blocked (rows_in es) t
first_tells t es s =
    first_of_run t (entries_not_below t es) ∙ ap (list_any (λ (e : (List ℕ) × Bindings). begins t e.0)) (begun_run t es s)
    ∙ sym (any_filter (λ (e : (List ℕ) × Bindings). begins t e.0) es) ∙ keys_block t es

-- ---- what comes, as it is found

in_found : (f : Found) (n : ℕ) (rows : List Row) (gone : List (List ℕ)) → Holds f rows → AllLong n rows → (x : Row) → IsIn x (found_rows f n gone) ↔ IsIn x (freed rows gone)
in_found f n rows gone held long x = (to, from)
  where
    told : (t : List ℕ) (o : Option Bindings) → f (take n t) ≡ o → IsIn x (row_found (take n t) o) → IsIn x rows × (x.tags ≡ take n t)
    told t None e i = absurd i
    told t (Some b) e (inl q) =
        let tags : x.tags ≡ take n t = ap (λ (r : Row). r.tags) (sym q) in
        ((held x).0 (ap f tags ∙ e ∙ ap (λ (r : Row). let o : Option Bindings = Some r.bindings in o) q), tags)
    told t (Some b) e (inr i) = absurd i

    to : IsIn x (found_rows f n gone) → IsIn x (freed rows gone)
    to h =
        let t = in_flat_map (λ (t : List ℕ). row_found (take n t) (f (take n t))) x gone h in
        let row = told t.0 (f (take n t.0)) refl t.2 in
        in_filter_back (λ (r : Row). list_any (begins r.tags) gone) x rows row.0
        (any_in_back (begins x.tags) gone t.0 t.1 (ap (λ k. begins k t.0) row.1 ∙ begins_front t.0 n))

    from : IsIn x (freed rows gone) → IsIn x (found_rows f n gone)
    from h =
        let here = in_filter (λ (r : Row). list_any (begins r.tags) gone) x rows h in
        let t = any_in (begins x.tags) gone here.1 in
        let front : take n t.0 ≡ x.tags = front_is x.tags t.0 n (long x here.0) t.2 in
        let at : f (take n t.0) ≡ Some x.bindings = ap f front ∙ (held x).1 here.0 in
        in_flat_map_back (λ (t : List ℕ). row_found (take n t) (f (take n t))) t.0 x gone t.1
        (subst (λ o. IsIn x (row_found (take n t.0) o)) (sym at) (inl (λ i. record { tags = front i; bindings = x.bindings })))

-- the change of a negation, with what comes as it is found
pub let_through_changes : (f : Found) (n : ℕ) (rows0 rows1 rows_come inner0 inner1 inner_come : List Row) (rows_gone inner_gone : List (List ℕ))
    → Holds f rows1 → AllLong n rows0 → AllLong n rows1 → RowsChange rows0 rows1 rows_come rows_gone → RowsChange inner0 inner1 inner_come inner_gone
    → RowsChange (kept inner0 rows0) (kept inner1 rows1) (let_through f n rows_come inner1 inner_gone) (negation_gone n rows_gone inner_come)
let_through_changes f n rows0 rows1 rows_come inner0 inner1 inner_come rows_gone inner_gone held long0 long1 rc ic =
    let all = negation_changes n rows0 rows1 rows_come inner0 inner1 inner_come rows_gone inner_gone long0 rc ic in
    record {
      fresh = λ x h. elim (all.fresh x h) [ inl i ↦ inl i | inr i ↦ inr (swap x i) ];
      here = λ x h. all.here x (back x h);
      lost = all.lost;
      away = all.away;
    }
  where
    swap : (x : Row) → IsIn x (negation_come rows1 rows_come inner1 inner_gone) → IsIn x (let_through f n rows_come inner1 inner_gone)
    swap x i = elim (in_append x (kept inner1 rows_come) (kept inner1 (freed rows1 inner_gone)) i) [
      | inl j ↦ in_left x (kept inner1 rows_come) (kept inner1 (found_rows f n inner_gone)) j
      | inr j ↦ (let k = in_kept inner1 (freed rows1 inner_gone) x j in
          in_right x (kept inner1 rows_come) (kept inner1 (found_rows f n inner_gone)) (in_kept_back inner1 (found_rows f n inner_gone) x ((in_found f n rows1 inner_gone held long1 x).1 k.0) k.1))
    ]

    back : (x : Row) → IsIn x (let_through f n rows_come inner1 inner_gone) → IsIn x (negation_come rows1 rows_come inner1 inner_gone)
    back x i = elim (in_append x (kept inner1 rows_come) (kept inner1 (found_rows f n inner_gone)) i) [
      | inl j ↦ in_left x (kept inner1 rows_come) (kept inner1 (freed rows1 inner_gone)) j
      | inr j ↦ (let k = in_kept inner1 (found_rows f n inner_gone) x j in
          in_right x (kept inner1 rows_come) (kept inner1 (freed rows1 inner_gone)) (in_kept_back inner1 (freed rows1 inner_gone) x ((in_found f n rows1 inner_gone held long1 x).0 k.0) k.1))
    ]

-- ---- serving

abbrev pub SameRows : List Row → List Row → Type 0
SameRows xs ys = (x : Row) → IsIn x xs ↔ IsIn x ys

blocked_same : (xs ys : List Row) → SameRows xs ys → (t : List ℕ) → is_blocked xs t ≡ is_blocked ys t
blocked_same xs ys same t = go (is_blocked xs t) refl (is_blocked ys t) refl
  where
    one_way : (us vs : List Row) → SameRows us vs → is_blocked us t ≡ true → is_blocked vs t ≡ true
    one_way us vs s h = (let z = any_in (λ (z : Row). begins t z.tags) us h in any_in_back (λ (z : Row). begins t z.tags) vs z.0 ((s z.0).0 z.1) z.2)

    go : (a : Bool) → is_blocked xs t ≡ a → (b : Bool) → is_blocked ys t ≡ b → is_blocked xs t ≡ is_blocked ys t
    go true e true f = e ∙ sym f
    go false e false f = e ∙ sym f
    go true e false f = (let bad : true ≡ false = sym (one_way xs ys same e) ∙ f in absurd (cc))
    go false e true f = (let bad : true ≡ false = sym (one_way ys xs (λ x. ((same x).1, (same x).0)) f) ∙ e in absurd (cc))

kept_same : (inner other rows : List Row) → SameRows inner other → (x : Row) → IsIn x (kept inner rows) → IsIn x (kept other rows)
kept_same inner other rows same x h =
    let here = in_kept inner rows x h in
    in_kept_back other rows x here.0 (sym (blocked_same inner other same x.tags) ∙ here.1)

same_change : (old old1 new new1 come : List Row) (gone : List (List ℕ)) → SameRows old old1 → SameRows new new1 → RowsChange old new come gone → RowsChange old1 new1 come gone
same_change old old1 new new1 come gone so sn c =
    record {
      fresh = λ x h. elim (c.fresh x ((sn x).1 h)) [ inl i ↦ inl ((so x).0 i) | inr i ↦ inr i ];
      here = λ x h. (sn x).0 (c.here x h);
      lost = λ x h. elim (c.lost x ((so x).1 h)) [ inl i ↦ inl ((sn x).0 i) | inr i ↦ inr i ];
      away = λ x h g. c.away x ((sn x).1 h) g;
    }

-- the change of a negation, with the rows of its inside as they are found
pub negation_told : (n : ℕ) (parent : Found) (inside rows0 rows1 rows_come inner0 inner1 inner_come : List Row) (rows_gone inner_gone : List (List ℕ))
    → SameRows inner1 inside → Holds parent rows1 → RowsChange rows0 rows1 rows_come rows_gone → RowsChange inner0 inner1 inner_come inner_gone → AllLong n rows0 → AllLong n rows1
    → RowsChange (kept inner0 rows0) (kept inner1 rows1) (let_through parent n rows_come inside inner_gone) (negation_gone n rows_gone inner_come)
negation_told n parent inside rows0 rows1 rows_come inner0 inner1 inner_come rows_gone inner_gone same hp rc ic long0 long1 =
    same_change (kept inner0 rows0) (kept inner0 rows0) (kept inside rows1) (kept inner1 rows1) (let_through parent n rows_come inside inner_gone) (negation_gone n rows_gone inner_come)
    (λ x. ((λ h. h), λ h. h)) (λ x. (kept_same inside inner1 rows1 (λ y. ((same y).1, (same y).0)) x, kept_same inner1 inside rows1 same x))
    (let_through_changes parent n rows0 rows1 rows_come inner0 inside inner_come rows_gone inner_gone hp long0 long1 rc
    (same_change inner0 inner0 inner1 inside inner_come inner_gone (λ x. ((λ h. h), λ h. h)) same ic))

-- a step of the loop over lists of tags
pub found_more : (f : Found) (n : ℕ) (gone : List (List ℕ)) (i : ℕ) (t : List ℕ) → i < length gone → t ≡ get_or gone i t
    → found_rows f n (take i gone) ++ row_found (take n t) (f (take n t)) ≡ found_rows f n (take (i + 1) gone)
found_more f n gone i t lt is =
    sym (ap (found_rows f n) (take_more gone i t lt ∙ ap (λ u. take i gone ++ u ∷ []) (sym is))
    ∙ flat_map-append (λ u. row_found (take n u) (f (take n u))) (take i gone) (t ∷ [])
    ∙ ap (λ l. found_rows f n (take i gone) ++ l) (append-nil (row_found (take n t) (f (take n t)))))

-- a negation whose parent and inside stay
pub kept_rests : (inner0 inner1 rows0 rows1 : List Row) → RowsChange inner0 inner1 [] [] → RowsChange rows0 rows1 [] [] → RowsChange (kept inner0 rows0) (kept inner1 rows1) [] []
kept_rests inner0 inner1 rows0 rows1 ic rc =
    record {
      fresh = λ x h.
          let now = in_kept inner1 rows1 x h in
          elim (rc.fresh x now.0) [ inl i ↦ inl (in_kept_back inner0 rows0 x i (blocked_same inner0 inner1 same x.tags ∙ now.1)) | inr i ↦ absurd i ];
      here = λ x h. absurd h;
      lost = λ x h.
          let was = in_kept inner0 rows0 x h in
          elim (rc.lost x was.0) [ inl i ↦ inl (in_kept_back inner1 rows1 x i (sym (blocked_same inner0 inner1 same x.tags) ∙ was.1)) | inr i ↦ absurd i ];
      away = λ x h g. g;
    }
  where
    same : SameRows inner0 inner1
    same x = (
      (λ i. elim (ic.lost x i) [ inl k ↦ k | inr k ↦ absurd k ]),
      (λ i. elim (ic.fresh x i) [ inl k ↦ k | inr k ↦ absurd k ]),
    )

-- rows that are found are as good as those that they are
pub kept_found : (inside seen inner rows : List Row) → SameRows seen rows → SameRows inside inner → (x : Row) → IsIn x (kept inside seen) ↔ IsIn x (kept inner rows)
kept_found inside seen inner rows same_rows same_inner x = (
  (λ h.
      let k = in_kept inside seen x h in
      in_kept_back inner rows x ((same_rows x).0 k.0) (sym (blocked_same inside inner same_inner x.tags) ∙ k.1)),
  (λ h.
      let k = in_kept inner rows x h in
      in_kept_back inside seen x ((same_rows x).1 k.0) (blocked_same inside inner same_inner x.tags ∙ k.1)),
)
