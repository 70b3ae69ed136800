-- The places of a key: where they begin, and what stands between them.
use Rattle.std.proofs.Common.{◌≡◌, ℕ, ◌==◌, true, false, ◌&&◌, refl, sym, ap, ap₂, ◌∙◌, arith}
use Rattle.std.specs.Ordering.{is_eq, is_gt, int_cmp, int_eq, nat_cmp, ordering_reverse, ordering_then}
use Rattle.std.specs.declared.cmp.Ordering.{Ordering}
use Rattle.std.specs.declared.cmp.Ordering.TheVariants.{Less, Equal, Greater}
use Rattle.std.proofs.lemmas.Bool.{and_parts}
use Rattle.std.proofs.lemmas.Cmp.{int_cmp_total, nat_cmp_total, tied_itself}
use Rattle.std.proofs.lemmas.Map.Lookups.{exact_signed}
use Rattle.soar_sym.specs.Equality.{symbol_eq}
use Rattle.soar_sym.specs.declared.symbol.Triple.{Triple}
use Rattle.soar_sym.proofs.KeyLemmas.{symbol_same, symbol_self, triple_same, triple_self}
use Rattle.defs_soar.specs.Values.{triple_eq}
use Rattle.packed_triples.specs.Packed.{kind_of, number_of, symbol_at}
use Rattle.input_memory.specs.Key.{is_of, is_under, lowest, IsToldKey}
use Rattle.input_memory.specs.Numbered.{numbered_cmp}
use Rattle.input_memory.specs.Order.{place_cmp, place_total, rest_cmp}
use Rattle.input_memory.specs.Place.{edge, kind_at, kind_number, place_of, triple_of}
use Rattle.input_memory.specs.declared.key.Key.{Key}
use Rattle.input_memory.specs.declared.key.Key.TheVariants.{Id, Whole}
use Rattle.input_memory.specs.declared.place.Place.{Place}
use Rattle.input_memory.proofs.OrderLemmas.{nat_same, nat_is, equal, place_exact}
use Rattle.input_memory.proofs.PlaceLemmas.{symbol_told, symbols_then, before_edge}

-- a place of the key tells a triple of it
pub under_own : (key : Key) (p : Place) → IsToldKey key → is_under key p ≡ true → is_of key (triple_of p) ≡ true
unfolding triple_of
under_own (Id id) p told under =
    let parts = and_parts (int_eq p.id (number_of id)) (p.id_kind == kind_number (kind_of id)) under in
    let number : p.id ≡ number_of id = exact_signed p.id (number_of id) (equal (int_cmp p.id (number_of id)) parts.0) in
    let kind : p.id_kind ≡ kind_number (kind_of id) = nat_is p.id_kind (kind_number (kind_of id)) parts.1 in
    let is : symbol_at (kind_at p.id_kind) p.id ≡ id = ap₂ (λ k n. symbol_at (kind_at k) n) kind number ∙ symbol_told id told in
    ap (λ s. symbol_eq s id) is ∙ symbol_self id
under_own (Whole u) p told under =
    let same : p ≡ place_of u = place_exact p (place_of u) (equal (place_cmp p (place_of u)) under) in
    ap (λ q. triple_eq (triple_of q) u) same ∙ ap (λ t. triple_eq t u) told ∙ triple_self u

least : (n : ℕ) → is_gt (nat_cmp 0 n) ≡ false
least n = grind arith

-- the lowest place of a key is below those of its triples
pub lowest_below : (key : Key) (t : Triple) (n : ℕ) → is_of key t ≡ true → is_gt (numbered_cmp place_cmp (lowest key, 0) (place_of t, n)) ≡ false
lowest_below (Id id) t n own =
    ap (λ o. is_gt (ordering_then o (nat_cmp 0 n))) (before_edge id t ∙ ap (λ s. symbols_then id s Less) (symbol_same t.id id own))
    ∙ ap₂ (λ x y. is_gt (ordering_then (ordering_then (ordering_then x y) Less) (nat_cmp 0 n))) (tied_itself int_cmp_total (number_of id)) (tied_itself nat_cmp_total (kind_number (kind_of id)))
lowest_below (Whole u) t n own =
    ap (λ x. is_gt (ordering_then (place_cmp (place_of u) (place_of x)) (nat_cmp 0 n))) (triple_same t u own) ∙ ap (λ o. is_gt (ordering_then o (nat_cmp 0 n))) (tied_itself place_total (place_of u)) ∙ least n

-- what stands between the lowest place of a key and the place of a triple of it is of the key
pub between_under : (key : Key) (t : Triple) (p : Place) (m n : ℕ) → is_of key t ≡ true → is_gt (numbered_cmp place_cmp (lowest key, 0) (p, m)) ≡ false → is_gt (numbered_cmp place_cmp (p, m) (place_of t, n)) ≡ false → is_under key p ≡ true
unfolding edge place_of
between_under (Id id) t p m n own low high =
    ap (λ b. int_eq p.id (number_of id) && b) (sym (nat_same p.id_kind (kind_number (kind_of id))))
    ∙ by (int_cmp p.id (number_of id)) (nat_cmp p.id_kind (kind_number (kind_of id))) (rest_cmp (edge id 0) p) (rest_cmp p (place_of t)) (nat_cmp 0 m) (nat_cmp m n)
    (sym (λ i. is_gt (ordering_then (ordering_then (ordering_then (int_cmp_total.antisymm (number_of id) p.id i) (nat_cmp_total.antisymm (kind_number (kind_of id)) p.id_kind i)) (rest_cmp (edge id 0) p)) (nat_cmp 0 m))) ∙ low)
    (sym (ap (λ s. is_gt (ordering_then (ordering_then (ordering_then (int_cmp p.id (number_of s)) (nat_cmp p.id_kind (kind_number (kind_of s)))) (rest_cmp p (place_of t))) (nat_cmp m n))) (symbol_same t.id id own)) ∙ high)
  where
    by : (x y a b c d : Ordering) → is_gt (ordering_then (ordering_then (ordering_then (ordering_reverse x) (ordering_reverse y)) a) c) ≡ false → is_gt (ordering_then (ordering_then (ordering_then x y) b) d) ≡ false → (is_eq x && is_eq y) ≡ true
    by Less y a b c d l h = sym l
    by Equal Less a b c d l h = sym l
    by Equal Equal a b c d l h = refl
    by Equal Greater a b c d l h = sym h
    by Greater y a b c d l h = sym h
between_under (Whole u) t p m n own low high =
    by (place_cmp p (place_of u)) (nat_cmp 0 m) (nat_cmp m n) (sym (ap (λ o. is_gt (ordering_then o (nat_cmp 0 m))) (place_total.antisymm (place_of u) p)) ∙ low)
    (sym (ap (λ x. is_gt (ordering_then (place_cmp p (place_of x)) (nat_cmp m n))) (triple_same t u own)) ∙ high)
  where
    by : (o c d : Ordering) → is_gt (ordering_then (ordering_reverse o) c) ≡ false → is_gt (ordering_then o d) ≡ false → is_eq o ≡ true
    by Less c d l h = sym l
    by Equal c d l h = refl
    by Greater c d l h = sym h
