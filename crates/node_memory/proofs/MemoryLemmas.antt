-- What a memory of rows holds as rows come and go.
use Rattle.std.proofs.Common.{◌≡◌, ◌≢◌, ◌↔◌, ◌⊎◌, inl, inr, refl, sym, ap, ap₂, subst, ◌∙◌, Bool, true, false, cond, ℕ, ◌+◌, ◌<◌, ◌≤◌, length, List, [], ◌∷◌, ◌++◌, map, flat_map, filter, drop, get_or, Option, Some, None, is_some, unwrap_or, drop-cons, add-one, ◌&&◌}
use Rattle.std.specs.Ordering.{nat_cmp, is_eq}
use Rattle.std.specs.Cmp.Lexicographic.{slice_cmp}
use Rattle.std.proofs.lemmas.List.{drop_all}
use Rattle.std.proofs.lemmas.Option.{same_Some}
use Rattle.std.proofs.lemmas.Bool.{and_parts}
use Rattle.defs_match.specs.Laws.{IsIn}
use Rattle.defs_match.specs.Rows.{Row}
use Rattle.defs_match.specs.Testing.{Bindings}
use Rattle.node_memory.specs.declared.symbols.Joined.{Joined}
use Rattle.node_memory.specs.declared.symbols.Symbols.{Symbols}
use Rattle.node_memory.specs.declared.symbols.SymbolKey.{SymbolKey}
use Rattle.node_memory.specs.Symbols.{is_of, joined_eq, symbols_eq}
use Rattle.node_memory.specs.Memories.{Found, has, symbols_in, key_for, keys_for, IsIndexed, row_found, put_at, same_tags}
use Rattle.node_memory.proofs.ChangeLemmas.{in_map, in_map_back, in_filter, in_filter_back, in_flat_map, in_flat_map_back}
use Rattle.node_memory.proofs.SymbolLemmas.{tags_tied, equal_told, joined_told, joined_itself, symbols_told, symbols_itself}

-- ---- steps of loops over variables

pub from_here : {A : Type 0} (xs : List A) (i : ℕ) (d : A) → i < length xs → drop i xs ≡ get_or xs i d ∷ drop (i + 1) xs
from_here xs i d h = drop-cons xs i d h ∙ ap (λ k. get_or xs i d ∷ drop k xs) (sym (add-one i))

pub added_step : (js : List Joined) (r : Row) (i : ℕ) (none : Joined) (cur new init : List SymbolKey) (k : SymbolKey) → i < length js
    → (IsIn k (keys_for (drop i js) r) ⊎ IsIn k cur) ↔ (IsIn k (keys_for js r) ⊎ IsIn k init) → IsIn k new ↔ ((key_for (get_or js i none) r ≡ k) ⊎ IsIn k cur)
    → (IsIn k (keys_for (drop (i + 1) js) r) ⊎ IsIn k new) ↔ (IsIn k (keys_for js r) ⊎ IsIn k init)
added_step js r i none cur new init k lt inv added =
    let whole = subst (λ us. (IsIn k (keys_for us r) ⊎ IsIn k cur) ↔ (IsIn k (keys_for js r) ⊎ IsIn k init)) (from_here js i none lt) inv in (
      (λ h. whole.0 (elim h [ inl m ↦ inl (inr m) | inr n ↦ elim (added.0 n) [ inl e ↦ inl (inl e) | inr c ↦ inr c ] ])),
      (λ h. elim (whole.1 h) [ inl j ↦ elim j [ inl e ↦ inr (added.1 (inl e)) | inr later ↦ inl later ] | inr c ↦ inr (added.1 (inr c)) ]),
    )

pub added_all : (js : List Joined) (r : Row) (i : ℕ) (cur init : List SymbolKey) (k : SymbolKey) → length js ≤ i
    → (IsIn k (keys_for (drop i js) r) ⊎ IsIn k cur) ↔ (IsIn k (keys_for js r) ⊎ IsIn k init) → IsIn k cur ↔ (IsIn k (keys_for js r) ⊎ IsIn k init)
added_all js r i cur init k past inv =
    let whole = subst (λ us. (IsIn k (keys_for us r) ⊎ IsIn k cur) ↔ (IsIn k (keys_for js r) ⊎ IsIn k init)) (drop_all i js past) inv in
    ((λ h. whole.0 (inr h)), λ h. elim (whole.1 h) [ inl j ↦ absurd j | inr c ↦ c ])

pub removed_step : (js : List Joined) (r : Row) (i : ℕ) (none : Joined) (cur new init : List SymbolKey) (k : SymbolKey) → i < length js
    → (IsIn k cur × (IsIn k (keys_for (drop i js) r) → ⊥)) ↔ (IsIn k init × (IsIn k (keys_for js r) → ⊥)) → IsIn k new ↔ (IsIn k cur × (key_for (get_or js i none) r ≢ k))
    → (IsIn k new × (IsIn k (keys_for (drop (i + 1) js) r) → ⊥)) ↔ (IsIn k init × (IsIn k (keys_for js r) → ⊥))
removed_step js r i none cur new init k lt inv removed =
    let whole = subst (λ us. (IsIn k cur × (IsIn k (keys_for us r) → ⊥)) ↔ (IsIn k init × (IsIn k (keys_for js r) → ⊥))) (from_here js i none lt) inv in (
      (λ h. let n = removed.0 h.0 in whole.0 (n.0, λ j. elim j [ inl e ↦ n.1 e | inr later ↦ h.1 later ])),
      (λ h. let w = whole.1 h in (removed.1 (w.0, λ e. w.1 (inl e)), λ later. w.1 (inr later))),
    )

pub removed_all : (js : List Joined) (r : Row) (i : ℕ) (cur init : List SymbolKey) (k : SymbolKey) → length js ≤ i
    → (IsIn k cur × (IsIn k (keys_for (drop i js) r) → ⊥)) ↔ (IsIn k init × (IsIn k (keys_for js r) → ⊥)) → IsIn k cur ↔ (IsIn k init × (IsIn k (keys_for js r) → ⊥))
removed_all js r i cur init k past inv =
    let whole = subst (λ us. (IsIn k cur × (IsIn k (keys_for us r) → ⊥)) ↔ (IsIn k init × (IsIn k (keys_for js r) → ⊥))) (drop_all i js past) inv in
    ((λ h. whole.0 (h, λ j. j)), λ h. (whole.1 h).0)

-- ---- a row more, or less

pub told : (t u : List ℕ) → is_eq (slice_cmp nat_cmp t u) ≡ true → t ≡ u
told t u h = tags_tied t u (equal_told (slice_cmp nat_cmp t u) h)

same_row : (r x : Row) → r.tags ≡ x.tags → r.bindings ≡ x.bindings → r ≡ x
same_row r x t b = λ i. record { tags = t i; bindings = b i }

pub put_has : (old new : Found) (r : Row) → ((x : Row) → has old x → x.tags ≡ r.tags → r ≡ x) → ((q : List ℕ) → new q ≡ cond (is_eq (slice_cmp nat_cmp r.tags q)) (Some r.bindings) (old q)) → new r.tags ≡ Some r.bindings
    → (x : Row) → has new x ↔ ((r ≡ x) ⊎ has old x)
put_has old new r alone updated here x = (
  (λ h. to (is_eq (slice_cmp nat_cmp r.tags x.tags)) refl (sym (updated x.tags) ∙ h)),
  (λ h. elim h [
    | inl e ↦ subst (has new) e here
    | inr o ↦ from (is_eq (slice_cmp nat_cmp r.tags x.tags)) refl o
  ]),
)
  where
    to : (b : Bool) → is_eq (slice_cmp nat_cmp r.tags x.tags) ≡ b → cond b (Some r.bindings) (old x.tags) ≡ Some x.bindings → (r ≡ x) ⊎ has old x
    to true same h = inl (same_row r x (told r.tags x.tags same) (same_Some r.bindings x.bindings h))
    to false differ h = inr h

    from : (b : Bool) → is_eq (slice_cmp nat_cmp r.tags x.tags) ≡ b → has old x → has new x
    from true same o = subst (has new) (alone x o (sym (told r.tags x.tags same))) here
    from false differ o = updated x.tags ∙ ap (λ b. cond b (Some r.bindings) (old x.tags)) differ ∙ o

pub put_indexed : (js : List Joined) (old new : Found) (r : Row) (keys keys1 : List SymbolKey) → IsIndexed js old keys → ((x : Row) → has new x ↔ ((r ≡ x) ⊎ has old x))
    → ((k : SymbolKey) → IsIn k keys1 ↔ (IsIn k (keys_for js r) ⊎ IsIn k keys)) → IsIndexed js new keys1
put_indexed js old new r keys keys1 inv rows added k = (
  (λ h. elim ((added k).0 h) [
    | inl i ↦ (r, (rows r).1 (inl refl), i)
    | inr i ↦ (let y = (inv k).0 i in (y.0, (rows y.0).1 (inr y.1), y.2))
  ]),
  (λ y. elim ((rows y.0).0 y.1) [
    | inl e ↦ (added k).1 (inl (subst (λ (x : Row). IsIn k (keys_for js x)) (sym e) y.2))
    | inr o ↦ (added k).1 (inr ((inv k).1 (y.0, o, y.2)))
  ]),
)

pub taken_has : (old new : Found) (t : List ℕ) → ((q : List ℕ) → new q ≡ cond (is_eq (slice_cmp nat_cmp t q)) None (old q)) → new t ≡ None → (x : Row) → has new x ↔ (has old x × (x.tags ≢ t))
taken_has old new t updated gone x = (
  (λ h. (to (is_eq (slice_cmp nat_cmp t x.tags)) (sym (updated x.tags) ∙ h), λ e. (let none : new x.tags ≡ None = ap new e ∙ gone in cc))),
  (λ h. from (is_eq (slice_cmp nat_cmp t x.tags)) refl h.0 h.1),
)
  where
    to : (b : Bool) → cond b None (old x.tags) ≡ Some x.bindings → has old x
    to true h = absurd (cc)
    to false h = h

    from : (b : Bool) → is_eq (slice_cmp nat_cmp t x.tags) ≡ b → has old x → x.tags ≢ t → has new x
    from true same o ne = absurd (ne (sym (told t x.tags same)))
    from false differ o ne = updated x.tags ∙ ap (λ b. cond b None (old x.tags)) differ ∙ o

keys_have_tags : (js : List Joined) (r : Row) (k : SymbolKey) → IsIn k (keys_for js r) → k.tags ≡ r.tags
keys_have_tags [] r k h = absurd h
keys_have_tags (j ∷ js) r k (inl e) = ap (λ (x : SymbolKey). x.tags) (sym e)
keys_have_tags (j ∷ js) r k (inr h) = keys_have_tags js r k h

pub taken_indexed : (js : List Joined) (old new : Found) (r : Row) (keys keys1 : List SymbolKey) → IsIndexed js old keys → has old r → ((x : Row) → has new x ↔ (has old x × (x.tags ≢ r.tags)))
    → ((k : SymbolKey) → IsIn k keys1 ↔ (IsIn k keys × (IsIn k (keys_for js r) → ⊥))) → IsIndexed js new keys1
taken_indexed js old new r keys keys1 inv there rows removed k = (
  (λ h.
      let n = (removed k).0 h in
      let y = (inv k).0 n.0 in
      (y.0, (rows y.0).1 (y.1, λ e. n.1 (subst (λ (x : Row). IsIn k (keys_for js x)) (only y.0 y.1 e) y.2)), y.2)),
  (λ y.
      let o = (rows y.0).0 y.1 in
      (removed k).1 ((inv k).1 (y.0, o.0, y.2), λ j. o.1 (sym (keys_have_tags js y.0 k y.2) ∙ keys_have_tags js r k j))),
)
  where
    only : (x : Row) → has old x → x.tags ≡ r.tags → x ≡ r
    only x o e = same_row x r e (same_Some x.bindings r.bindings (sym o ∙ ap old e ∙ there))

-- a row that is not there need not be taken
pub not_there : (js : List Joined) (old new : Found) (t : List ℕ) (keys : List SymbolKey) → IsIndexed js old keys → old t ≡ None → ((x : Row) → has new x ↔ (has old x × (x.tags ≢ t))) → IsIndexed js new keys
not_there js old new t keys inv none rows k = (
  (λ h. let y = (inv k).0 h in (y.0, (rows y.0).1 (y.1, λ e. (let bad : Some y.0.bindings ≡ None = sym y.1 ∙ ap old e ∙ none in cc)), y.2)),
  (λ y. (inv k).1 (y.0, ((rows y.0).0 y.1).0, y.2)),
)

-- a row whose tags are not there
pub put_fresh : (old new : Found) (r : Row) → is_some (old r.tags) ≡ false → ((q : List ℕ) → new q ≡ cond (same_tags r.tags q) (Some r.bindings) (old q)) → (q : List ℕ) → new q ≡ put_at r old q
put_fresh old new r none updated q = updated q ∙ by (same_tags r.tags q) refl
  where
    absent : (o : Option Bindings) → is_some o ≡ false → Some r.bindings ≡ Some (unwrap_or o r.bindings)
    absent None h = refl
    absent (Some b) h = absurd (cc)

    by : (b : Bool) → same_tags r.tags q ≡ b → cond b (Some r.bindings) (old q) ≡ cond b (Some (unwrap_or (old q) r.bindings)) (old q)
    by true same = absent (old q) (ap (λ t. is_some (old t)) (sym (told r.tags q same)) ∙ none)
    by false differ = refl

pub alone_fresh : (old : Found) (r : Row) → is_some (old r.tags) ≡ false → (x : Row) → has old x → x.tags ≡ r.tags → r ≡ x
alone_fresh old r none x h e = (let bad : true ≡ false = ap is_some (sym h) ∙ ap (λ t. is_some (old t)) e ∙ none in absurd (cc))

-- a row whose tags are there
pub put_again : (old : Found) (r : Row) → is_some (old r.tags) ≡ true → (q : List ℕ) → old q ≡ put_at r old q
put_again old r there q = by (same_tags r.tags q) refl
  where
    present : (o : Option Bindings) → is_some o ≡ true → o ≡ Some (unwrap_or o r.bindings)
    present None h = absurd (cc)
    present (Some b) h = refl

    by : (b : Bool) → same_tags r.tags q ≡ b → old q ≡ cond b (Some (unwrap_or (old q) r.bindings)) (old q)
    by true same = present (old q) (ap (λ t. is_some (old t)) (sym (told r.tags q same)) ∙ there)
    by false differ = refl

-- a row whose tags are there is there
pub found_again : (found : Found) (r : Row) → ((x : Row) → has found x → x.tags ≡ r.tags → r ≡ x) → is_some (found r.tags) ≡ true → (x : Row) → has found x ↔ ((r ≡ x) ⊎ has found x)
found_again found r alone some x = ((λ h. inr h), λ h. elim h [ inl e ↦ subst (has found) e (there (found r.tags) refl some) | inr o ↦ o ])
  where
    there : (o : Option Bindings) → found r.tags ≡ o → is_some o ≡ true → has found r
    there None at some = absurd (cc)
    there (Some bs) at some = (let y : Row = record { tags = r.tags; bindings = bs } in subst (has found) (sym (alone y at refl)) at)

-- ---- rows by what a variable stands for

found_in : (found : Found) (t : List ℕ) (o : Option Bindings) → found t ≡ o → (x : Row) → IsIn x (row_found t o) → has found x × (x.tags ≡ t)
found_in found t None at x h = absurd h
found_in found t (Some bs) at x (inl e) = (subst (has found) e at, ap (λ (y : Row). y.tags) (sym e))
found_in found t (Some bs) at x (inr h) = absurd h

in_found : (found : Found) (x : Row) → has found x → IsIn x (row_found x.tags (found x.tags))
in_found found x h = subst (λ o. IsIn x (row_found x.tags o)) (sym h) (inl refl)

in_keys : (js : List Joined) (r : Row) (v : Joined) → IsIn v js → IsIn (key_for v r) (keys_for js r)
in_keys js r v h = in_map_back (λ u. key_for u r) v js h

-- the rows that are found under the tags of an index are those in which the variable stands for the symbol
pub rows_with : (js : List Joined) (found : Found) (keys : List SymbolKey) (v : Joined) (s : Symbols) → IsIndexed js found keys → IsIn v js
    → (x : Row) → IsIn x (flat_map (λ t. row_found t (found t)) (map (λ (k : SymbolKey). k.tags) (filter (is_of v s) keys))) ↔ (has found x × (symbols_in v x.bindings ≡ s))
rows_with js found keys v s inv joined x = (to, from)
  where
    to : IsIn x (flat_map (λ t. row_found t (found t)) (map (λ (k : SymbolKey). k.tags) (filter (is_of v s) keys))) → has found x × (symbols_in v x.bindings ≡ s)
    to h =
        let t = in_flat_map (λ t. row_found t (found t)) x (map (λ (k : SymbolKey). k.tags) (filter (is_of v s) keys)) h in
        let there = found_in found t.0 (found t.0) refl x t.2 in
        let k = in_map (λ (k : SymbolKey). k.tags) t.0 (filter (is_of v s) keys) t.1 in
        let passes = in_filter (is_of v s) k.0 keys k.1 in
        let y = (inv k.0).0 passes.0 in
        let of = in_map (λ u. key_for u y.0) k.0 js y.2 in
        let p = and_parts (joined_eq k.0.joined v) (symbols_eq k.0.symbols s) passes.1 in
        let tags : y.0.tags ≡ x.tags = ap (λ (j : SymbolKey). j.tags) of.2 ∙ k.2 ∙ sym there.1 in
        let same : y.0 ≡ x = same_row y.0 x tags (same_Some y.0.bindings x.bindings (sym y.1 ∙ ap found tags ∙ there.0)) in
        let variables : of.0 ≡ v = ap (λ (j : SymbolKey). j.joined) of.2 ∙ joined_told k.0.joined v p.0 in
        (there.0, ap (λ (r : Row). symbols_in v r.bindings) (sym same) ∙ ap (λ u. symbols_in u y.0.bindings) (sym variables) ∙ ap (λ (j : SymbolKey). j.symbols) of.2 ∙ symbols_told k.0.symbols s p.1)

    from : has found x × (symbols_in v x.bindings ≡ s) → IsIn x (flat_map (λ t. row_found t (found t)) (map (λ (k : SymbolKey). k.tags) (filter (is_of v s) keys)))
    from h =
        let passes : is_of v s (key_for v x) ≡ true = ap₂ (λ a b. a && b) (joined_itself v) (ap (λ t. symbols_eq t s) h.1 ∙ symbols_itself s) in
        in_flat_map_back (λ t. row_found t (found t)) x.tags x (map (λ (k : SymbolKey). k.tags) (filter (is_of v s) keys))
        (in_map_back (λ (k : SymbolKey). k.tags) (key_for v x) (filter (is_of v s) keys) (in_filter_back (is_of v s) (key_for v x) keys ((inv (key_for v x)).1 (x, h.0, in_keys js x v joined)) passes))
        (in_found found x h.0)

-- ---- variables more

pub row_step : (v : Joined) (rows : List Row) (i : ℕ) (r : Row) (cur new init : List SymbolKey) (k : SymbolKey) → i < length rows → r ≡ get_or rows i r
    → (IsIn k (map (key_for v) (drop i rows)) ⊎ IsIn k cur) ↔ (IsIn k (map (key_for v) rows) ⊎ IsIn k init) → IsIn k new ↔ ((key_for v r ≡ k) ⊎ IsIn k cur)
    → (IsIn k (map (key_for v) (drop (i + 1) rows)) ⊎ IsIn k new) ↔ (IsIn k (map (key_for v) rows) ⊎ IsIn k init)
row_step v rows i r cur new init k lt is inv added =
    let here : drop i rows ≡ r ∷ drop (i + 1) rows = from_here rows i r lt ∙ ap (λ x. x ∷ drop (i + 1) rows) (sym is) in
    let whole = subst (λ us. (IsIn k (map (key_for v) us) ⊎ IsIn k cur) ↔ (IsIn k (map (key_for v) rows) ⊎ IsIn k init)) here inv in (
      (λ h. whole.0 (elim h [ inl j ↦ inl (inr j) | inr n ↦ elim (added.0 n) [ inl e ↦ inl (inl e) | inr c ↦ inr c ] ])),
      (λ h. elim (whole.1 h) [ inl j ↦ elim j [ inl e ↦ inr (added.1 (inl e)) | inr later ↦ inl later ] | inr c ↦ inr (added.1 (inr c)) ]),
    )

pub rows_all : (v : Joined) (rows : List Row) (i : ℕ) (cur init : List SymbolKey) (k : SymbolKey) → length rows ≤ i
    → (IsIn k (map (key_for v) (drop i rows)) ⊎ IsIn k cur) ↔ (IsIn k (map (key_for v) rows) ⊎ IsIn k init) → IsIn k cur ↔ (IsIn k (map (key_for v) rows) ⊎ IsIn k init)
rows_all v rows i cur init k past inv =
    let whole = subst (λ us. (IsIn k (map (key_for v) us) ⊎ IsIn k cur) ↔ (IsIn k (map (key_for v) rows) ⊎ IsIn k init)) (drop_all i rows past) inv in
    ((λ h. whole.0 (inr h)), λ h. elim (whole.1 h) [ inl j ↦ absurd j | inr c ↦ c ])

one_key : (js : List Joined) (v : Joined) (r : Row) (k : SymbolKey) → IsIn k (keys_for (js ++ v ∷ []) r) ↔ (IsIn k (keys_for js r) ⊎ (key_for v r ≡ k))
one_key [] v r k = ((λ h. elim h [ inl e ↦ inr e | inr i ↦ absurd i ]), λ h. elim h [ inl i ↦ absurd i | inr e ↦ inl e ])
one_key (u ∷ js) v r k =
    let deep = one_key js v r k in (
      (λ h. elim h [ inl e ↦ inl (inl e) | inr i ↦ elim (deep.0 i) [ inl j ↦ inl (inr j) | inr e ↦ inr e ] ]),
      (λ h. elim h [ inl i ↦ elim i [ inl e ↦ inl e | inr j ↦ inr (deep.1 (inl j)) ] | inr e ↦ inr (deep.1 (inr e)) ]),
    )

pub indexed_more : (js : List Joined) (found : Found) (keys keys1 : List SymbolKey) (v : Joined) (rows : List Row) → IsIndexed js found keys → ((x : Row) → has found x ↔ IsIn x rows)
    → ((k : SymbolKey) → IsIn k keys1 ↔ (IsIn k (map (key_for v) rows) ⊎ IsIn k keys)) → IsIndexed (js ++ v ∷ []) found keys1
indexed_more js found keys keys1 v rows inv all added k = (
  (λ h. elim ((added k).0 h) [
    | inl i ↦ (let r = in_map (key_for v) k rows i in (r.0, (all r.0).1 r.1, (one_key js v r.0 k).1 (inr r.2)))
    | inr i ↦ (let y = (inv k).0 i in (y.0, y.1, (one_key js v y.0 k).1 (inl y.2)))
  ]),
  (λ y. elim ((one_key js v y.0 k).0 y.2) [
    | inl i ↦ (added k).1 (inr ((inv k).1 (y.0, y.1, i)))
    | inr e ↦ (added k).1 (inl (subst (λ (j : SymbolKey). IsIn j (map (key_for v) rows)) e (in_map_back (key_for v) y.0 rows ((all y.0).0 y.1))))
  ]),
)
