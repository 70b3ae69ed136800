-- What an index by symbols finds, and what a change of it leaves.
use Rattle.std.proofs.Common.{◌≡◌, ◌≢◌, ◌↔◌, ◌⊎◌, inl, inr, refl, sym, ap, ap₂, ◌∙◌, Bool, true, false, cond, ◌&&◌, ℕ, List, [], ◌∷◌, map, filter, Option, Some, None, eqb-true}
use Rattle.std.specs.Ordering.{nat_cmp, is_le, is_eq, match_ordering, ordering_then, ordering_reverse}
use Rattle.std.specs.Option.{option_cmp}
use Rattle.std.specs.declared.cmp.Ordering.{Ordering}
use Rattle.std.specs.declared.cmp.Ordering.TheVariants.{Less, Equal, Greater}
use Rattle.std.specs.Cmp.{IsTotalOrder, tied_itself, alike_right, unsigned_tied}
use Rattle.std.specs.Cmp.Lexicographic.{slice_cmp}
use Rattle.std.specs.BTreeMap.{is_at, insert_entry}
use Rattle.std.specs.Map.{keys_of, remove_entry}
use Rattle.std.specs.List.{AllByRecursion}
use Rattle.std.specs.List.Sorted.{IsStrictlySortedBy}
use Rattle.std.proofs.lemmas.Map.Keys.{sorted_head, sorted_tail}
use Rattle.std.proofs.lemmas.Bool.{and_parts}
use Rattle.defs_match.specs.Laws.{IsIn}
use Rattle.soar_sym.specs.declared.symbol.Sym.{Sym}
use Rattle.soar_sym.proofs.KeyLemmas.{symbol_same}
use Rattle.node_memory.specs.declared.symbols.Joined.{Joined}
use Rattle.node_memory.specs.declared.symbols.Symbols.{Symbols}
use Rattle.node_memory.specs.declared.symbols.SymbolKey.{SymbolKey}
use Rattle.node_memory.specs.contracts.symbols.JoinedOrd.TheImpl.Laws as variable_laws
use Rattle.node_memory.specs.contracts.symbols.SymbolsOrd.TheImpl.Laws as meaning_laws
use Rattle.node_memory.specs.Sides.{side_cmp, side_of, side_total, id_side, value_side}
use Rattle.node_memory.specs.Symbols.{joined_cmp, joined_total, symbols_cmp, symbols_total, whole_cmp, symbol_cmp, symbol_total, joined_eq, symbols_eq, is_of, least_of, from_least}
use Rattle.node_memory.specs.Runs.{front_while}
use Rattle.node_memory.specs.Packed.{sym_cmp}
use Rattle.node_memory.proofs.KeyLemmas.{sym_tied, le_then, then_less}
use Rattle.node_memory.proofs.RunLemmas.{run_is_filter}

-- ---- keys that compare equal are one

pub then_parts : (o q : Ordering) → ordering_then o q ≡ Equal → (o ≡ Equal) × (q ≡ Equal)
then_parts Less q h = absurd (cc)
then_parts Equal q h = (refl, h)
then_parts Greater q h = absurd (cc)

pub number_tied : (m n : ℕ) → nat_cmp m n ≡ Equal → m ≡ n
number_tied m n h = eqb-true m n (sym (unsigned_tied m n) ∙ ap is_eq h)

symbol_tied : (a b : Sym) → sym_cmp a b ≡ Equal → a ≡ b
symbol_tied a b h = symbol_same a b (sym (sym_tied a b) ∙ ap is_eq h)

option_tied : {K : Type 0} (R : K → K → Ordering) → ((a b : K) → R a b ≡ Equal → a ≡ b) → (a b : Option K) → option_cmp R a b ≡ Equal → a ≡ b
option_tied R tied None None h = refl
option_tied R tied None (Some b) h = absurd (cc)
option_tied R tied (Some a) None h = absurd (cc)
option_tied R tied (Some a) (Some b) h = (let same : a ≡ b = tied a b h in λ i. Some (same i))

joined_tied : (a b : Joined) → joined_cmp a b ≡ Equal → a ≡ b
joined_tied a b h =
    let p = then_parts (option_cmp nat_cmp a.id b.id) (option_cmp nat_cmp a.value b.value) h in
    let id = option_tied nat_cmp number_tied a.id b.id p.0 in
    let value = option_tied nat_cmp number_tied a.value b.value p.1 in
    λ i. record { id = id i; value = value i }

symbols_tied : (a b : Symbols) → symbols_cmp a b ≡ Equal → a ≡ b
symbols_tied a b h =
    let p = then_parts (option_cmp sym_cmp a.id b.id) (option_cmp sym_cmp a.value b.value) h in
    let id = option_tied sym_cmp symbol_tied a.id b.id p.0 in
    let value = option_tied sym_cmp symbol_tied a.value b.value p.1 in
    λ i. record { id = id i; value = value i }

pub tags_tied : (t u : List ℕ) → slice_cmp nat_cmp t u ≡ Equal → t ≡ u
tags_tied [] [] h = refl
tags_tied [] (n ∷ u) h = absurd (cc)
tags_tied (m ∷ t) [] h = absurd (cc)
tags_tied (m ∷ t) (n ∷ u) h = (let p = then_parts (nat_cmp m n) (slice_cmp nat_cmp t u) h in ap₂ (λ x xs. x ∷ xs) (number_tied m n p.0) (tags_tied t u p.1))

whole_tied : (a b : SymbolKey) → whole_cmp a b ≡ Equal → a ≡ b
whole_tied a b h =
    let p = then_parts (joined_cmp a.joined b.joined) _ h in
    let q = then_parts (symbols_cmp a.symbols b.symbols) (slice_cmp nat_cmp a.tags b.tags) p.1 in
    let v = joined_tied a.joined b.joined p.0 in
    let s = symbols_tied a.symbols b.symbols q.0 in
    let t = tags_tied a.tags b.tags q.1 in
    λ i. record { joined = v i; symbols = s i; tags = t i }

pub key_tied : (a b : SymbolKey) → symbol_cmp a b ≡ Equal → a ≡ b
key_tied a b h =
    let p = then_parts (side_cmp (id_side a) (id_side b)) (ordering_then (side_cmp (value_side a) (value_side b)) (whole_cmp a b)) h in
    let q = then_parts (side_cmp (value_side a) (value_side b)) (whole_cmp a b) p.1 in
    whole_tied a b q.1

pub equal_told : (o : Ordering) → is_eq o ≡ true → o ≡ Equal
equal_told Equal h = refl
equal_told Less h = absurd (cc)
equal_told Greater h = absurd (cc)

pub joined_told : (a b : Joined) → joined_eq a b ≡ true → a ≡ b
joined_told a b h = joined_tied a b (equal_told (joined_cmp a b) (sym (variable_laws.matches_eq-law a b) ∙ h))

pub joined_itself : (a : Joined) → joined_eq a a ≡ true
joined_itself a = variable_laws.matches_eq-law a a ∙ ap is_eq (tied_itself joined_total a)

pub symbols_told : (a b : Symbols) → symbols_eq a b ≡ true → a ≡ b
symbols_told a b h = symbols_tied a b (equal_told (symbols_cmp a b) (sym (meaning_laws.matches_eq-law a b) ∙ h))

pub symbols_itself : (a : Symbols) → symbols_eq a a ≡ true
symbols_itself a = meaning_laws.matches_eq-law a a ∙ ap is_eq (tied_itself symbols_total a)

-- ---- a run

joined_at : (j k : Joined) → joined_eq k j ≡ true → joined_cmp j k ≡ Equal
joined_at j k h = ap (joined_cmp j) (joined_told k j h) ∙ tied_itself joined_total j

symbols_at : (s k : Symbols) → symbols_eq k s ≡ true → symbols_cmp s k ≡ Equal
symbols_at s k h = ap (symbols_cmp s) (symbols_told k s h) ∙ tied_itself symbols_total s

nothing_below : (t : List ℕ) → is_le (slice_cmp nat_cmp [] t) ≡ true
nothing_below [] = refl
nothing_below (n ∷ t) = refl

whole_starts : (j : Joined) (s : Symbols) (k : SymbolKey) → is_of j s k ≡ true → is_le (whole_cmp (least_of j s) k) ≡ true
whole_starts j s k h =
    let p = and_parts (joined_eq k.joined j) (symbols_eq k.symbols s) h in
    ap (λ o. is_le (ordering_then o (ordering_then (symbols_cmp s k.symbols) (slice_cmp nat_cmp [] k.tags)))) (joined_at j k.joined p.0)
    ∙ ap (λ o. is_le (ordering_then o (slice_cmp nat_cmp [] k.tags))) (symbols_at s k.symbols p.1) ∙ nothing_below k.tags

id_at : (j : Joined) (s : Symbols) (k : SymbolKey) → is_of j s k ≡ true → side_cmp (side_of j.id s.id) (id_side k) ≡ Equal
id_at j s k h =
    let p = and_parts (joined_eq k.joined j) (symbols_eq k.symbols s) h in
    ap₂ (λ (x : Joined) (y : Symbols). side_cmp (side_of j.id s.id) (side_of x.id y.id)) (joined_told k.joined j p.0) (symbols_told k.symbols s p.1) ∙ tied_itself side_total (side_of j.id s.id)

value_at : (j : Joined) (s : Symbols) (k : SymbolKey) → is_of j s k ≡ true → side_cmp (side_of j.value s.value) (value_side k) ≡ Equal
value_at j s k h =
    let p = and_parts (joined_eq k.joined j) (symbols_eq k.symbols s) h in
    ap₂ (λ (x : Joined) (y : Symbols). side_cmp (side_of j.value s.value) (side_of x.value y.value)) (joined_told k.joined j p.0) (symbols_told k.symbols s p.1) ∙ tied_itself side_total (side_of j.value s.value)

starts : (j : Joined) (s : Symbols) (k : SymbolKey) → is_of j s k ≡ true → is_le (symbol_cmp (least_of j s) k) ≡ true
starts j s k h =
    ap (λ o. is_le (ordering_then o (ordering_then (side_cmp (side_of j.value s.value) (value_side k)) (whole_cmp (least_of j s) k)))) (id_at j s k h) ∙ ap (λ o. is_le (ordering_then o (whole_cmp (least_of j s) k))) (value_at j s k h)
    ∙ whole_starts j s k h

-- what lies between equals is equal to them
pub between : {K : Type 0} (R : K → K → Ordering) → IsTotalOrder R → (a h k : K) (o q : Ordering) → R a k ≡ Equal → is_le (ordering_then (R a h) o) ≡ true → ordering_then (R h k) q ≡ Less
    → (R a h ≡ Equal) × (is_le o ≡ true) × (q ≡ Less)
between R total a h k o q same low high = go (le_then (R a h) o low) (then_less (R h k) q high)
  where
    turn : R a h ≡ ordering_reverse (R h k)
    turn = total.antisymm a h ∙ ap ordering_reverse (alike_right total a k h same)

    go : (R a h ≡ Less) ⊎ ((R a h ≡ Equal) × (is_le o ≡ true)) → (R h k ≡ Less) ⊎ ((R h k ≡ Equal) × (q ≡ Less)) → (R a h ≡ Equal) × (is_le o ≡ true) × (q ≡ Less)
    go (inl less) (inl below) = (let bad : Less ≡ Greater = sym less ∙ turn ∙ ap ordering_reverse below in absurd (cc))
    go (inl less) (inr e) = (let bad : Less ≡ Equal = sym less ∙ turn ∙ ap ordering_reverse e.0 in absurd (cc))
    go (inr e) (inl below) = (let bad : Equal ≡ Greater = sym e.0 ∙ turn ∙ ap ordering_reverse below in absurd (cc))
    go (inr e) (inr f) = (e.0, e.1, f.1)

whole_gap : (j : Joined) (s : Symbols) (h k : SymbolKey) → is_le (whole_cmp (least_of j s) h) ≡ true → whole_cmp h k ≡ Less → is_of j s k ≡ true → is_of j s h ≡ true
whole_gap j s h k low high passes =
    let p = and_parts (joined_eq k.joined j) (symbols_eq k.symbols s) passes in
    let b = between joined_cmp joined_total j h.joined k.joined _ _ (joined_at j k.joined p.0) low high in
    let c = between symbols_cmp symbols_total s h.symbols k.symbols _ _ (symbols_at s k.symbols p.1) b.1 b.2 in
    ap₂ (λ x y. x && y) (ap (λ x. joined_eq x j) (sym (joined_tied j h.joined b.0)) ∙ joined_itself j) (ap (λ x. symbols_eq x s) (sym (symbols_tied s h.symbols c.0)) ∙ symbols_itself s)

no_gap : (j : Joined) (s : Symbols) (h k : SymbolKey) → is_le (symbol_cmp (least_of j s) h) ≡ true → symbol_cmp h k ≡ Less → is_of j s k ≡ true → is_of j s h ≡ true
no_gap j s h k low high passes =
    let b = between side_cmp side_total (side_of j.id s.id) (id_side h) (id_side k) _ _ (id_at j s k passes) low high in
    let c = between side_cmp side_total (side_of j.value s.value) (value_side h) (value_side k) _ _ (value_at j s k passes) b.1 b.2 in
    whole_gap j s h k c.1 c.2 passes

-- the walk finds exactly the entries of the variables and what they stand for
pub run_of_symbols : {X : Type 0} (j : Joined) (s : Symbols) (es : List (SymbolKey × X)) → IsStrictlySortedBy symbol_cmp (keys_of es)
    → front_while (λ (e : SymbolKey × X). is_of j s e.0) (from_least (least_of j s) es) ≡ filter (λ (e : SymbolKey × X). is_of j s e.0) es
run_of_symbols j s es sorted = run_is_filter symbol_cmp (least_of j s) (is_of j s) es (starts j s) (no_gap j s) sorted

pub tags_found : {X : Type 0} (q : SymbolKey → Bool) (es : List (SymbolKey × X)) → map (λ (e : SymbolKey × X). e.0.tags) (filter (λ (e : SymbolKey × X). q e.0) es) ≡ map (λ (k : SymbolKey). k.tags) (filter q (keys_of es))
tags_found q [] = refl
tags_found {X = X} q (e ∷ es) = by (q e.0) (tags_found q es)
  where
    by : (b : Bool) → map (λ (e : SymbolKey × X). e.0.tags) (filter (λ (e : SymbolKey × X). q e.0) es) ≡ map (λ (k : SymbolKey). k.tags) (filter q (keys_of es))
        → map (λ (e : SymbolKey × X). e.0.tags) (cond b (e ∷ filter (λ (e : SymbolKey × X). q e.0) es) (filter (λ (e : SymbolKey × X). q e.0) es)) ≡ map (λ (k : SymbolKey). k.tags) (cond b (e.0 ∷ filter q (keys_of es)) (filter q (keys_of es)))
    by true deep = ap (λ l. e.0.tags ∷ l) deep
    by false deep = deep

-- ---- changes

pub in_inserted : {X : Type 0} (es : List (SymbolKey × X)) (k : SymbolKey) (v : X) (x : SymbolKey) → IsIn x (keys_of (insert_entry symbol_cmp es k v)) ↔ ((k ≡ x) ⊎ IsIn x (keys_of es))
in_inserted [] k v x = ((λ h. h), λ h. h)
in_inserted (p ∷ es) k v x = by (symbol_cmp k p.0) refl (in_inserted es k v x)
  where
    by : (o : Ordering) → symbol_cmp k p.0 ≡ o → IsIn x (keys_of (insert_entry symbol_cmp es k v)) ↔ ((k ≡ x) ⊎ IsIn x (keys_of es))
        → IsIn x (keys_of (match_ordering o ((k, v) ∷ p ∷ es) ((p.0, v) ∷ es) (p ∷ insert_entry symbol_cmp es k v))) ↔ ((k ≡ x) ⊎ ((p.0 ≡ x) ⊎ IsIn x (keys_of es)))
    by Less is deep = ((λ h. h), λ h. h)
    by Equal is deep = (
      (λ h. inr h),
      (λ h. elim h [ inl e ↦ inl (sym (key_tied k p.0 is) ∙ e) | inr i ↦ i ]),
    )
    by Greater is deep = (
      (λ h. elim h [ inl e ↦ inr (inl e) | inr i ↦ elim (deep.0 i) [ inl e ↦ inl e | inr j ↦ inr (inr j) ] ]),
      (λ h. elim h [ inl e ↦ inr (deep.1 (inl e)) | inr i ↦ elim i [ inl e ↦ inl e | inr j ↦ inr (deep.1 (inr j)) ] ]),
    )

above_all : {X : Type 0} (es : List (SymbolKey × X)) (k x : SymbolKey) → AllByRecursion (λ h. symbol_cmp k h ≡ Less) (keys_of es) → IsIn x (keys_of es) → symbol_cmp k x ≡ Less
above_all [] k x above h = absurd h
above_all (p ∷ es) k x above (inl e) = ap (symbol_cmp k) (sym e) ∙ above.0
above_all (p ∷ es) k x above (inr h) = above_all es k x above.1 h

itself : (k h : SymbolKey) → k ≡ h → symbol_cmp k h ≡ Equal
itself k h same = ap (symbol_cmp k) (sym same) ∙ tied_itself symbol_total k

pub in_removed : {X : Type 0} (es : List (SymbolKey × X)) (k x : SymbolKey) → IsStrictlySortedBy symbol_cmp (keys_of es) → IsIn x (keys_of (remove_entry (is_at (symbol_cmp k)) es)) ↔ (IsIn x (keys_of es) × (k ≢ x))
in_removed [] k x s = ((λ h. absurd h), λ h. absurd (h.0))
in_removed (p ∷ es) k x s = by (is_at (symbol_cmp k) p.0) refl (in_removed es k x (sorted_tail symbol_cmp p.0 (keys_of es) s)) (λ i. above_all es p.0 x (sorted_head symbol_cmp p.0 (keys_of es) s) i)
  where
    by : (b : Bool) → is_at (symbol_cmp k) p.0 ≡ b → IsIn x (keys_of (remove_entry (is_at (symbol_cmp k)) es)) ↔ (IsIn x (keys_of es) × (k ≢ x)) → (IsIn x (keys_of es) → symbol_cmp p.0 x ≡ Less)
        → IsIn x (keys_of (cond b es (p ∷ remove_entry (is_at (symbol_cmp k)) es))) ↔ (IsIn x (p.0 ∷ keys_of es) × (k ≢ x))
    by true at deep above = (
      (λ i. (
        inr i,
        λ same. (
            let bad : Equal ≡ Less = sym (itself p.0 x (sym (key_tied k p.0 (equal_told (symbol_cmp k p.0) at)) ∙ same)) ∙ above i in absurd (cc)),
      )),
      (λ h. elim (h.0) [ inl e ↦ absurd (h.1 (key_tied k p.0 (equal_told (symbol_cmp k p.0) at) ∙ e)) | inr i ↦ i ]),
    )
    by false at deep above = (
      (λ h. elim h [
        | inl e ↦ (inl e, λ same. (let bad : true ≡ false = ap is_eq (sym (itself k p.0 (same ∙ sym e))) ∙ at in absurd (cc)))
        | inr i ↦ (let d = deep.0 i in (inr d.0, d.1))
      ]),
      (λ h. elim (h.0) [ inl e ↦ inl e | inr i ↦ inr (deep.1 (i, h.1)) ]),
    )
