-- Turns under numbers, and turns on an agenda.
use Rattle.std.proofs.Common.{◌≡◌, ◌≢◌, ◌↔◌, ◌⊎◌, inl, inr, refl, sym, ap, subst, ◌∙◌, Bool, true, false, cond, ◌==◌, eqb-true, eq-eqb, ℕ, zero, suc, List, [], ◌∷◌, map, filter, arith}
use Rattle.std.proofs.lemmas.Bool.{and_parts}
use Rattle.std.specs.Ordering.{nat_cmp, is_le, is_eq, match_ordering, ordering_then}
use Rattle.std.specs.declared.cmp.Ordering.{Ordering}
use Rattle.std.specs.declared.cmp.Ordering.TheVariants.{Less, Equal, Greater}
use Rattle.std.specs.Cmp.{tied_itself, nat_cmp_is, ranked}
use Rattle.std.proofs.lemmas.Cmp.{nat_cmp_total}
use Rattle.std.specs.BTreeMap.{is_at, insert_entry}
use Rattle.std.specs.BTreeSet.{insert_key}
use Rattle.std.specs.Map.{keys_of, remove_entry}
use Rattle.std.specs.List.{AllByRecursion}
use Rattle.std.specs.List.Sorted.{IsStrictlySortedBy}
use Rattle.std.proofs.lemmas.Map.Keys.{sorted_head, sorted_tail}
use Rattle.defs_match.specs.Laws.{IsIn}
use Rattle.node_memory.specs.Runs.{front_while}
use Rattle.node_memory.proofs.ChangeLemmas.{in_map, in_map_back, in_filter, in_filter_back}
use Rattle.node_memory.proofs.RunLemmas.{run_is_filter}
use Rattle.node_memory.proofs.SymbolLemmas.{between, equal_told}
use Rattle.node_agenda.specs.contracts.turns.TurnOrd.TheImpl.Laws as turn_laws
use Rattle.node_agenda.specs.contracts.turns.TurnKeyOrd.TheImpl.Laws as key_laws
use Rattle.node_agenda.specs.declared.turns.Turn.{Turn}
use Rattle.node_agenda.specs.declared.turns.TurnKey.{TurnKey}
use Rattle.node_agenda.specs.Turns.{turn_cmp, key_cmp, is_under, first_turn, least_under, from_least, under, with_turns}

-- ---- turns that compare equal are one

pub turn_told : (a b : Turn) → turn_cmp a b ≡ Equal → a ≡ b
turn_told a b e =
    let parts = and_parts (a.made == b.made) (a.node == b.node) (turn_laws.matches_eq-law a b ∙ ap is_eq e) in
    let made = eqb-true a.made b.made parts.0 in
    let node = eqb-true a.node b.node parts.1 in
    λ i. record { made = made i; node = node i }

then_parts : (o q : Ordering) → ordering_then o q ≡ Equal → (o ≡ Equal) × (q ≡ Equal)
then_parts Less q h = absurd (cc)
then_parts Equal q h = (refl, h)
then_parts Greater q h = absurd (cc)

number_of : (m n : ℕ) → nat_cmp m n ≡ Equal → m ≡ n
number_of m n is = ranked m n Equal (sym is)

pub key_told : (a b : TurnKey) → key_cmp a b ≡ Equal → a ≡ b
key_told a b e =
    let parts = then_parts (nat_cmp a.number b.number) (turn_cmp a.turn b.turn) e in
    let number = number_of a.number b.number parts.0 in
    let turn = turn_told a.turn b.turn parts.1 in
    λ i. record { number = number i; turn = turn i }

key_itself : (k h : TurnKey) → k ≡ h → key_cmp k h ≡ Equal
key_itself k h same = ap (key_cmp k) (sym same) ∙ tied_itself key_laws.total-law k

-- ---- a run

zero_below : (n : ℕ) → is_le (nat_cmp 0 n) ≡ true
zero_below zero = refl
zero_below (suc n) = ap is_le (sym (nat_cmp_is 0 (suc n) Less (omega arith)))

none_before : (m n : ℕ) → is_le (ordering_then (nat_cmp 0 m) (nat_cmp 0 n)) ≡ true
none_before zero n = zero_below n
none_before (suc m) n = ap (λ (o : Ordering). is_le (ordering_then o (nat_cmp 0 n))) (sym (nat_cmp_is 0 (suc m) Less (omega arith)))

number_same : (n m : ℕ) → (m == n) ≡ true → nat_cmp n m ≡ Equal
number_same n m h = ap (nat_cmp n) (eqb-true m n h) ∙ tied_itself nat_cmp_total n

starts : (n : ℕ) (k : TurnKey) → is_under n k ≡ true → is_le (key_cmp (least_under n) k) ≡ true
starts n k h = ap (λ (o : Ordering). is_le (ordering_then o (turn_cmp first_turn k.turn))) (number_same n k.number h) ∙ none_before k.turn.made k.turn.node

no_gap : (n : ℕ) (h k : TurnKey) → is_le (key_cmp (least_under n) h) ≡ true → key_cmp h k ≡ Less → is_under n k ≡ true → is_under n h ≡ true
no_gap n h k low high passes =
    let b = between nat_cmp nat_cmp_total n h.number k.number (turn_cmp first_turn h.turn) (turn_cmp h.turn k.turn) (number_same n k.number passes) low high in
    eq-eqb h.number n (sym (number_of n h.number b.0))

-- the walk finds exactly the entries under the number
pub run_under : {X : Type 0} (n : ℕ) (es : List (TurnKey × X)) → IsStrictlySortedBy key_cmp (keys_of es)
    → front_while (λ (e : TurnKey × X). is_under n e.0) (from_least (least_under n) es) ≡ filter (λ (e : TurnKey × X). is_under n e.0) es
run_under n es sorted = run_is_filter key_cmp (least_under n) (is_under n) es (starts n) (no_gap n) sorted

pub turns_found : {X : Type 0} (q : TurnKey → Bool) (es : List (TurnKey × X)) → map (λ (e : TurnKey × X). e.0.turn) (filter (λ (e : TurnKey × X). q e.0) es) ≡ map (λ (k : TurnKey). k.turn) (filter q (keys_of es))
turns_found q [] = refl
turns_found {X = X} q (e ∷ es) = by (q e.0) (turns_found q es)
  where
    by : (b : Bool) → map (λ (e : TurnKey × X). e.0.turn) (filter (λ (e : TurnKey × X). q e.0) es) ≡ map (λ (k : TurnKey). k.turn) (filter q (keys_of es))
        → map (λ (e : TurnKey × X). e.0.turn) (cond b (e ∷ filter (λ (e : TurnKey × X). q e.0) es) (filter (λ (e : TurnKey × X). q e.0) es)) ≡ map (λ (k : TurnKey). k.turn) (cond b (e.0 ∷ filter q (keys_of es)) (filter q (keys_of es)))
    by true deep = ap (λ l. e.0.turn ∷ l) deep
    by false deep = deep

-- a turn stands under the number exactly where its key is there
pub in_under : (n : ℕ) (keys : List TurnKey) (t : Turn) → IsIn t (map (λ (k : TurnKey). k.turn) (filter (is_under n) keys)) ↔ IsIn (under n t) keys
in_under n keys t = (
  (λ i.
      let k = in_map (λ (k : TurnKey). k.turn) t (filter (is_under n) keys) i in
      let f = in_filter (is_under n) k.0 keys k.1 in
      subst (λ (x : TurnKey). IsIn x keys) (same k.0 f.1 k.2) f.0),
  (λ i. in_map_back (λ (k : TurnKey). k.turn) (under n t) (filter (is_under n) keys) (in_filter_back (is_under n) (under n t) keys i (eq-eqb n n refl))),
)
  where
    same : (k : TurnKey) → is_under n k ≡ true → k.turn ≡ t → k ≡ under n t
    same k is e = (let number = eqb-true k.number n is in λ i. record { number = number i; turn = e i })

-- ---- changes

pub in_inserted : {X : Type 0} (es : List (TurnKey × X)) (k : TurnKey) (v : X) (x : TurnKey) → IsIn x (keys_of (insert_entry key_cmp es k v)) ↔ ((k ≡ x) ⊎ IsIn x (keys_of es))
in_inserted [] k v x = ((λ h. h), λ h. h)
in_inserted (p ∷ es) k v x = by (key_cmp k p.0) refl (in_inserted es k v x)
  where
    by : (o : Ordering) → key_cmp k p.0 ≡ o → IsIn x (keys_of (insert_entry key_cmp es k v)) ↔ ((k ≡ x) ⊎ IsIn x (keys_of es))
        → IsIn x (keys_of (match_ordering o ((k, v) ∷ p ∷ es) ((p.0, v) ∷ es) (p ∷ insert_entry key_cmp es k v))) ↔ ((k ≡ x) ⊎ ((p.0 ≡ x) ⊎ IsIn x (keys_of es)))
    by Less is deep = ((λ h. h), λ h. h)
    by Equal is deep = (
      (λ h. inr h),
      (λ h. elim h [ inl e ↦ inl (sym (key_told k p.0 is) ∙ e) | inr i ↦ i ]),
    )
    by Greater is deep = (
      (λ h. elim h [ inl e ↦ inr (inl e) | inr i ↦ elim (deep.0 i) [ inl e ↦ inl e | inr j ↦ inr (inr j) ] ]),
      (λ h. elim h [ inl e ↦ inr (deep.1 (inl e)) | inr i ↦ elim i [ inl e ↦ inl e | inr j ↦ inr (deep.1 (inr j)) ] ]),
    )

above_all : {X : Type 0} (es : List (TurnKey × X)) (k x : TurnKey) → AllByRecursion (λ h. key_cmp k h ≡ Less) (keys_of es) → IsIn x (keys_of es) → key_cmp k x ≡ Less
above_all [] k x above h = absurd h
above_all (p ∷ es) k x above (inl e) = ap (key_cmp k) (sym e) ∙ above.0
above_all (p ∷ es) k x above (inr h) = above_all es k x above.1 h

pub in_removed : {X : Type 0} (es : List (TurnKey × X)) (k x : TurnKey) → IsStrictlySortedBy key_cmp (keys_of es) → IsIn x (keys_of (remove_entry (is_at (key_cmp k)) es)) ↔ (IsIn x (keys_of es) × (k ≢ x))
in_removed [] k x s = ((λ h. absurd h), λ h. absurd (h.0))
in_removed (p ∷ es) k x s = by (is_at (key_cmp k) p.0) refl (in_removed es k x (sorted_tail key_cmp p.0 (keys_of es) s)) (λ i. above_all es p.0 x (sorted_head key_cmp p.0 (keys_of es) s) i)
  where
    by : (b : Bool) → is_at (key_cmp k) p.0 ≡ b → IsIn x (keys_of (remove_entry (is_at (key_cmp k)) es)) ↔ (IsIn x (keys_of es) × (k ≢ x)) → (IsIn x (keys_of es) → key_cmp p.0 x ≡ Less)
        → IsIn x (keys_of (cond b es (p ∷ remove_entry (is_at (key_cmp k)) es))) ↔ (IsIn x (p.0 ∷ keys_of es) × (k ≢ x))
    by true at deep above = (
      (λ i. (
        inr i,
        λ same. (
            let bad : Equal ≡ Less = sym (key_itself p.0 x (sym (key_told k p.0 (equal_told (key_cmp k p.0) at)) ∙ same)) ∙ above i in absurd (cc)),
      )),
      (λ h. elim (h.0) [ inl e ↦ absurd (h.1 (key_told k p.0 (equal_told (key_cmp k p.0) at) ∙ e)) | inr i ↦ i ]),
    )
    by false at deep above = (
      (λ h. elim h [
        | inl e ↦ (inl e, λ same. (let bad : true ≡ false = ap is_eq (sym (key_itself k p.0 (same ∙ sym e))) ∙ at in absurd (cc)))
        | inr i ↦ (let d = deep.0 i in (inr d.0, d.1))
      ]),
      (λ h. elim (h.0) [ inl e ↦ inl e | inr i ↦ inr (deep.1 (i, h.1)) ]),
    )

-- ---- an agenda

in_insert : (t x : Turn) (ts : List Turn) → IsIn x (insert_key turn_cmp ts t) ↔ ((t ≡ x) ⊎ IsIn x ts)
in_insert t x [] = ((λ h. h), λ h. h)
in_insert t x (y ∷ ys) = by (turn_cmp t y) refl (in_insert t x ys)
  where
    by : (o : Ordering) → turn_cmp t y ≡ o → (IsIn x (insert_key turn_cmp ys t) ↔ ((t ≡ x) ⊎ IsIn x ys)) → IsIn x (match_ordering o (t ∷ y ∷ ys) (y ∷ ys) (y ∷ insert_key turn_cmp ys t)) ↔ ((t ≡ x) ⊎ IsIn x (y ∷ ys))
    by Less is deep = ((λ h. h), λ h. h)
    by Equal is deep = ((λ h. inr h), λ h. elim h [ inl e ↦ inl (sym (turn_told t y is) ∙ e) | inr i ↦ i ])
    by Greater is deep = (
      (λ h. elim h [ inl e ↦ inr (inl e) | inr i ↦ elim (deep.0 i) [ inl e ↦ inl e | inr j ↦ inr (inr j) ] ]),
      (λ h. elim h [ inl e ↦ inr (deep.1 (inl e)) | inr i ↦ elim i [ inl e ↦ inl e | inr j ↦ inr (deep.1 (inr j)) ] ]),
    )

pub in_turns : (t : Turn) (ts agenda : List Turn) → IsIn t (with_turns ts agenda) ↔ (IsIn t ts ⊎ IsIn t agenda)
in_turns t [] agenda = ((λ h. inr h), λ h. elim h [ inl i ↦ absurd i | inr i ↦ i ])
in_turns t (u ∷ ts) agenda =
    let deep = in_turns t ts (insert_key turn_cmp agenda u) in
    let here = in_insert u t agenda in (
      (λ h. elim (deep.0 h) [ inl i ↦ inl (inr i) | inr i ↦ elim (here.0 i) [ inl e ↦ inl (inl e) | inr k ↦ inr k ] ]),
      (λ h. elim h [ inl i ↦ elim i [ inl e ↦ deep.1 (inr (here.1 (inl e))) | inr k ↦ deep.1 (inl k) ] | inr k ↦ deep.1 (inr (here.1 (inr k))) ]),
    )
