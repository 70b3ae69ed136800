-- Maps of namings as lists in order.
use Rattle.std.proofs.Common.{◌≡◌, refl, sym, ◌∙◌, ap, ap₂, subst, ℕ, nat_lt, Bool, true, false, ◌==◌, ◌&&◌, ◌||◌, cond, is_some, Option, Some, None, arith, List, [], ◌∷◌, map}
use Rattle.std.specs.BTreeMap.{insert_entry}
use Rattle.std.specs.List.Sorted.{IsStrictlySortedBy}
use Rattle.std.specs.Map.{lookup}
use Rattle.std.specs.Ordering.{is_eq, match_ordering, nat_cmp, ordering_then}
use Rattle.std.specs.declared.cmp.Ordering.{Ordering}
use Rattle.std.specs.declared.cmp.Ordering.TheVariants.{Less, Equal, Greater}
use Rattle.defs_soar.specs.Explanation.{is_naming_before, is_seen, naming_eq, TagNaming, with_naming}
use Rattle.chunk_back.specs.declared.naming.Naming.{Naming}
use Rattle.chunk_back.specs.Keyed.{HaveOwnKeys}
use Rattle.chunk_back.specs.Namings.{AreNamings, as_naming, naming_in, naming_key, namings_in, pair_cmp}
use Rattle.chunk_back.proofs.KeyedLemmas.{own_new, put, put_known, put_new}
use Rattle.chunk_back.proofs.Lists.{same_number}

nat_less : (a b c : ℕ) → nat_cmp a b ≡ Less → nat_cmp b c ≡ Less → nat_cmp a c ≡ Less
nat_less a b c p q = grind arith

nat_equal : (a b : ℕ) → nat_cmp a b ≡ Equal → a ≡ b
nat_equal a b e = grind arith

pair_less : (a b c : ℕ × ℕ) → pair_cmp a b ≡ Less → pair_cmp b c ≡ Less → pair_cmp a c ≡ Less
pair_less a b c p q = go (nat_cmp a.0 b.0) refl p (nat_cmp b.0 c.0) refl q
  where
    go : (x : Ordering) → nat_cmp a.0 b.0 ≡ x → ordering_then x (nat_cmp a.1 b.1) ≡ Less → (y : Ordering) → nat_cmp b.0 c.0 ≡ y → ordering_then y (nat_cmp b.1 c.1) ≡ Less → ordering_then (nat_cmp a.0 c.0) (nat_cmp a.1 c.1) ≡ Less
    go Less e h Less f k = ap (λ o. ordering_then o (nat_cmp a.1 c.1)) (nat_less a.0 b.0 c.0 e f)
    go Less e h Equal f k = ap (λ o. ordering_then o (nat_cmp a.1 c.1)) (ap (nat_cmp a.0) (sym (nat_equal b.0 c.0 f)) ∙ e)
    go Less e h Greater f k = absurd (cc)
    go Equal e h Less f k = ap (λ o. ordering_then o (nat_cmp a.1 c.1)) (ap (λ n. nat_cmp n c.0) (nat_equal a.0 b.0 e) ∙ f)
    go Equal e h Equal f k =
        ap (λ o. ordering_then o (nat_cmp a.1 c.1)) (ap (λ n. nat_cmp n c.0) (nat_equal a.0 b.0 e) ∙ f) ∙ nat_less a.1 b.1 c.1 h k
    go Equal e h Greater f k = absurd (cc)
    go Greater e h y f k = absurd (cc)

-- ---- one naming more

-- the two orders of pairs agree
order_of : (a b : TagNaming) (x : Bool) → (a.element.tag == b.element.tag) ≡ x → (y : Bool) → nat_lt a.element.tag b.element.tag ≡ y → (u : Bool) → (a.named == b.named) ≡ u → (v : Bool) → nat_lt a.named b.named ≡ v
    → (l m n : List TagNaming) → match_ordering (ordering_then (cond y Less (cond x Equal Greater)) (cond v Less (cond u Equal Greater))) l m n ≡ cond (x && u) m (cond (y || (x && v)) l n)
order_of a b true p true q u r v s l m n = let e : a.element.tag ≡ b.element.tag = same_number a.element.tag b.element.tag p in absurd (grind arith)
order_of a b true p false q true r true s l m n = let e : a.named ≡ b.named = same_number a.named b.named r in absurd (grind arith)
order_of a b true p false q true r false s l m n = refl
order_of a b true p false q false r true s l m n = refl
order_of a b true p false q false r false s l m n = refl
order_of a b false p true q u r v s l m n = refl
order_of a b false p false q u r v s l m n = refl

at_naming : (a : TagNaming) (bs : List TagNaming) → put pair_cmp naming_key a bs ≡ with_naming a bs
at_naming a [] = refl
at_naming a (b ∷ bs) =
    order_of a b (a.element.tag == b.element.tag) refl (nat_lt a.element.tag b.element.tag) refl (a.named == b.named) refl (nat_lt a.named b.named) refl (a ∷ b ∷ bs) (b ∷ bs) (b ∷ put pair_cmp naming_key a bs)
    ∙ ap (λ l. cond (naming_eq a b) (b ∷ bs) (cond (is_naming_before a b) (a ∷ b ∷ bs) (b ∷ l))) (at_naming a bs)

abbrev pub found_naming : TagNaming → List ((ℕ × ℕ) × Naming) → Option Naming
found_naming n entries = lookup (λ q. is_eq (pair_cmp (naming_key n) q)) entries

pub naming_new : (n : Naming) (entries : List ((ℕ × ℕ) × Naming)) → AreNamings entries → found_naming (as_naming n) entries ≡ None
    → namings_in (insert_entry pair_cmp entries (naming_key (as_naming n)) n) ≡ with_naming (as_naming n) (namings_in entries)
naming_new n entries h none = put_new pair_cmp naming_key naming_in (naming_key (as_naming n)) n entries h.own_keys refl none ∙ at_naming (as_naming n) (namings_in entries)

pub naming_known : (n : Naming) (entries : List ((ℕ × ℕ) × Naming)) → AreNamings entries → is_some (found_naming (as_naming n) entries) ≡ true → with_naming (as_naming n) (namings_in entries) ≡ namings_in entries
naming_known n entries h there = sym (at_naming (as_naming n) (namings_in entries)) ∙ put_known pair_cmp naming_key naming_in pair_less (as_naming n) n entries h.own_keys h.in_order there

pub namings_new : (n : Naming) (entries new : List ((ℕ × ℕ) × Naming)) → AreNamings entries → found_naming (as_naming n) entries ≡ None → new ≡ insert_entry pair_cmp entries (naming_key (as_naming n)) n
    → IsStrictlySortedBy pair_cmp (map (λ d. d.0) new) → AreNamings new
namings_new n entries new h none is sorted = record {
  own_keys = subst (HaveOwnKeys naming_key naming_in) (sym is) (own_new pair_cmp naming_key naming_in (naming_key (as_naming n)) n entries h.own_keys refl none);
  in_order = sorted;
}

-- ---- what is there

same_tags : (m n : ℕ) → is_eq (nat_cmp m n) ≡ (m == n)
same_tags m n = grind arith

same_pair : (x y : Ordering) → is_eq (ordering_then x y) ≡ (is_eq x && is_eq y)
same_pair Less y = refl
same_pair Equal y = refl
same_pair Greater y = refl

same_key : (a b : TagNaming) → is_eq (pair_cmp (naming_key a) (naming_key b)) ≡ naming_eq a b
same_key a b =
    same_pair (nat_cmp a.element.tag b.element.tag) (nat_cmp a.named b.named) ∙ ap₂ (λ x y. x && y) (same_tags a.element.tag b.element.tag) (same_tags a.named b.named)

pub is_found : (n : TagNaming) (entries : List ((ℕ × ℕ) × Naming)) → HaveOwnKeys naming_key naming_in entries → is_some (found_naming n entries) ≡ is_seen (namings_in entries) n
is_found n [] h = refl
is_found n (e ∷ entries) h =
    go (is_eq (pair_cmp (naming_key n) e.0)) (is_found n entries h.1) ∙ ap (λ b. b || is_seen (namings_in entries) n) (ap (λ q. is_eq (pair_cmp (naming_key n) q)) h.0 ∙ same_key n (naming_in e))
  where
    go : (b : Bool) → is_some (found_naming n entries) ≡ is_seen (namings_in entries) n → is_some (cond b (Some e.1) (found_naming n entries)) ≡ (b || is_seen (namings_in entries) n)
    go true later = refl
    go false later = later

pub values_seen : (entries : List ((ℕ × ℕ) × Naming)) → map as_naming (map (λ e. e.1) entries) ≡ namings_in entries
values_seen [] = refl
values_seen (e ∷ entries) = ap (λ l. as_naming e.1 ∷ l) (values_seen entries)
