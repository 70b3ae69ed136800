-- Keys of an identifier stand next to each other.
use Rattle.std.proofs.Common.{◌≡◌, refl, sym, ap, ap₂, ◌∙◌, Bool, true, false, ◌&&◌, not, ℕ, zero, suc, List, filter, Option, Some, None, ◌⊎◌, inl, inr, arith}
use Rattle.std.specs.Ordering.{nat_cmp, is_le, is_eq, ordering_then, ordering_reverse}
use Rattle.std.specs.declared.cmp.Ordering.{Ordering}
use Rattle.std.specs.declared.cmp.Ordering.TheVariants.{Less, Equal, Greater}
use Rattle.std.specs.Cmp.{IsTotalOrder, tied_itself, nat_cmp_is}
use Rattle.std.specs.Map.{keys_of}
use Rattle.std.specs.List.Sorted.{IsStrictlySortedBy}
use Rattle.std.proofs.lemmas.Bool.{and_parts}
use Rattle.soar_sym.specs.Equality.{symbol_eq}
use Rattle.soar_sym.specs.declared.symbol.Sym.{Sym}
use Rattle.soar_sym.specs.declared.symbol.Sym.TheVariants.{Ident, Word, Int}
use Rattle.soar_sym.specs.contracts.symbol.SymOrd.TheImpl.Laws as laws
use Rattle.soar_sym.proofs.KeyLemmas.{symbol_same, symbol_derived}
use Rattle.node_memory.specs.declared.key.ElementKey.{ElementKey}
use Rattle.node_memory.specs.declared.index.Marks.{Marks}
use Rattle.node_memory.specs.Keys.{key_cmp, is_other, value_beside, key_meets, or_least, least_key, entries_from}
use Rattle.node_memory.specs.Packed.{sym_cmp}
use Rattle.node_memory.specs.Runs.{front_while}
use Rattle.node_memory.proofs.RunLemmas.{run_is_filter}

pub sym_total : IsTotalOrder sym_cmp
sym_total = laws.total-law

-- symbols that compare equal are one
pub sym_tied : (a b : Sym) → is_eq (sym_cmp a b) ≡ symbol_eq a b
sym_tied a b = sym (laws.matches_eq-law a b) ∙ symbol_derived a b

pub sym_itself : (a : Sym) → sym_cmp a a ≡ Equal
sym_itself a = tied_itself sym_total a

pub le_then : (o q : Ordering) → is_le (ordering_then o q) ≡ true → (o ≡ Less) ⊎ ((o ≡ Equal) × (is_le q ≡ true))
le_then Less q h = inl refl
le_then Equal q h = inr (refl, h)
le_then Greater q h = absurd (cc)

pub then_less : (o q : Ordering) → ordering_then o q ≡ Less → (o ≡ Less) ⊎ ((o ≡ Equal) × (q ≡ Less))
then_less Less q h = inl refl
then_less Equal q h = inr (refl, h)
then_less Greater q h = absurd (cc)

-- what lies between a symbol and itself is that symbol
pub squeezed : (a h k : Sym) (o q : Ordering) → symbol_eq a k ≡ true → is_le (ordering_then (sym_cmp a h) o) ≡ true → ordering_then (sym_cmp h k) q ≡ Less
    → (symbol_eq a h ≡ true) × (is_le o ≡ true) × (q ≡ Less)
squeezed a h k o q same low high = go (le_then (sym_cmp a h) o low) (then_less (sym_cmp h k) q high)
  where
    one : a ≡ k
    one = symbol_same a k same

    turn : sym_cmp a h ≡ ordering_reverse (sym_cmp h k)
    turn = sym_total.antisymm a h ∙ ap (λ s. ordering_reverse (sym_cmp h s)) one

    go : (sym_cmp a h ≡ Less) ⊎ ((sym_cmp a h ≡ Equal) × (is_le o ≡ true)) → (sym_cmp h k ≡ Less) ⊎ ((sym_cmp h k ≡ Equal) × (q ≡ Less)) → (symbol_eq a h ≡ true) × (is_le o ≡ true) × (q ≡ Less)
    go (inl less) (inl below) = (let bad : Less ≡ Greater = sym less ∙ turn ∙ ap ordering_reverse below in absurd (cc))
    go (inl less) (inr e) = (let bad : Less ≡ Equal = sym less ∙ turn ∙ ap ordering_reverse e.0 in absurd (cc))
    go (inr e) (inl below) = (let bad : Equal ≡ Greater = sym e.0 ∙ turn ∙ ap ordering_reverse below in absurd (cc))
    go (inr e) (inr f) = (sym (sym_tied a h) ∙ ap is_eq e.0, e.1, f.1)

zero_below : (n : ℕ) → is_le (nat_cmp 0 n) ≡ true
zero_below zero = refl
zero_below (suc n) = ap is_le (sym (nat_cmp_is 0 (suc n) Less (omega arith)))

at_same : (a b : Sym) (o : Ordering) → symbol_eq a b ≡ true → ordering_then (sym_cmp a b) o ≡ o
at_same a b o same = ap (λ s. ordering_then (sym_cmp a s) o) (sym (symbol_same a b same)) ∙ ap (λ r. ordering_then r o) (sym_itself a)

not_not : (b : Bool) → not b ≡ true → b ≡ false
not_not true h = absurd (cc)
not_not false h = refl

told : (b : Bool) → not b ≡ false → b ≡ true
told true h = refl
told false h = absurd (cc)

both_le : (o q : Ordering) → is_le o ≡ true → is_le q ≡ true → is_le (ordering_then o q) ≡ true
both_le Less q h low = refl
both_le Equal q h low = low
both_le Greater q h low = absurd (cc)

-- no symbol is below the least
least_le : (b : Sym) → is_le (sym_cmp (Ident 0 0) b) ≡ true
least_le (Ident letter number) = both_le (nat_cmp 0 letter) (nat_cmp 0 number) (zero_below letter) (zero_below number)
least_le (Word word) = refl
least_le (Int value) = refl

-- a field that is not another is not below the one that is asked for
field_starts : (a : Option Sym) (b : Sym) (o : Ordering) → is_other a (Some b) ≡ false → is_le o ≡ true → is_le (ordering_then (sym_cmp (or_least a) b) o) ≡ true
field_starts None b o h low = both_le (sym_cmp (Ident 0 0) b) o (least_le b) low
field_starts (Some a) b o h low = ap is_le (at_same a b o (told (symbol_eq a b) h)) ∙ low

-- a key that meets is not below the least
starts : (id : Sym) (attr value : Option Sym) (k : ElementKey) → key_meets id attr value k ≡ true → is_le (key_cmp (least_key id attr value) k) ≡ true
starts id attr value k h =
    let p = and_parts (symbol_eq id k.id) _ h in
    let q = and_parts (not (is_other attr (Some k.attr))) (not (is_other value (Some k.value))) p.1 in
    ap is_le (at_same id k.id (ordering_then (sym_cmp (or_least attr) k.attr) (ordering_then (sym_cmp (or_least value) k.value) (nat_cmp 0 k.tag))) p.0)
    ∙ field_starts attr k.attr _ (not_not (is_other attr (Some k.attr)) q.0) (field_starts value k.value (nat_cmp 0 k.tag) (not_not (is_other value (Some k.value)) q.1) (zero_below k.tag))

-- what lies between fields that are asked for is one of them
field_between : (a b c : Sym) (o q : Ordering) → is_other (Some a) (Some c) ≡ false → is_le (ordering_then (sym_cmp a b) o) ≡ true → ordering_then (sym_cmp b c) q ≡ Less
    → (is_other (Some a) (Some b) ≡ false) × (is_le o ≡ true) × (q ≡ Less)
field_between a b c o q other low high = (let s = squeezed a b c o q (told (symbol_eq a c) other) low high in (ap not s.0, s.1, s.2))

field_no_gap : (a : Option Sym) (b c : Sym) (o q : Ordering) → is_other a (Some c) ≡ false → is_le (ordering_then (sym_cmp (or_least a) b) o) ≡ true → ordering_then (sym_cmp b c) q ≡ Less → is_other a (Some b) ≡ false
field_no_gap None b c o q other low high = refl
field_no_gap (Some a) b c o q other low high = (field_between a b c o q other low high).0

no_gap : (id : Sym) (attr value : Option Sym) (h k : ElementKey) → is_le (key_cmp (least_key id attr (value_beside attr value)) h) ≡ true → key_cmp h k ≡ Less → key_meets id attr (value_beside attr value) k ≡ true
    → key_meets id attr (value_beside attr value) h ≡ true
no_gap id attr value h k low high meets =
    let p = and_parts (symbol_eq id k.id) _ meets in
    let s = squeezed id h.id k.id _ _ p.0 low high in
    ap₂ (λ x y. x && y) s.0 (by attr p.1 s.1 s.2)
  where
    by : (a : Option Sym) → (not (is_other a (Some k.attr)) && not (is_other (value_beside a value) (Some k.value))) ≡ true
        → is_le (ordering_then (sym_cmp (or_least a) h.attr) (ordering_then (sym_cmp (or_least (value_beside a value)) h.value) (nat_cmp 0 h.tag))) ≡ true
        → ordering_then (sym_cmp h.attr k.attr) (ordering_then (sym_cmp h.value k.value) (nat_cmp h.tag k.tag)) ≡ Less
        → (not (is_other a (Some h.attr)) && not (is_other (value_beside a value) (Some h.value))) ≡ true
    by None both low high = refl
    by (Some a) both low high =
        let q = and_parts (not (is_other (Some a) (Some k.attr))) (not (is_other value (Some k.value))) both in
        let f = field_between a h.attr k.attr _ _ (not_not (is_other (Some a) (Some k.attr)) q.0) low high in
        ap₂ (λ x y. not x && not y) f.0 (field_no_gap value h.value k.value _ _ (not_not (is_other value (Some k.value)) q.1) f.1 f.2)

-- the walk finds exactly the entries that meet
pub run_of_id : (id : Sym) (attr value : Option Sym) (es : List (ElementKey × Marks)) → IsStrictlySortedBy key_cmp (keys_of es)
    → front_while (λ (e : ElementKey × Marks). key_meets id attr (value_beside attr value) e.0) (entries_from (least_key id attr (value_beside attr value)) es)
    ≡ filter (λ (e : ElementKey × Marks). key_meets id attr (value_beside attr value) e.0) es
run_of_id id attr value es s = run_is_filter key_cmp (least_key id attr (value_beside attr value)) (key_meets id attr (value_beside attr value)) es (starts id attr (value_beside attr value)) (no_gap id attr value) s
