-- Symbols compare as their kinds, and those of one kind as their numbers.
use Rattle.std.proofs.Common.{◌≡◌, ℕ, ◌<◌, ◌+◌, ◌*◌, ◌/◌, ◌%◌, ℤ, pos, ◌<ℤ◌, refl, sym, ap, ap₂, ◌∙◌, arith}
use Rattle.std.specs.Prelude.{unsigned_abs}
use Rattle.std.specs.Cmp.{ranks, nat_cmp_is, int_cmp_is}
use Rattle.std.specs.Ordering.{MatchOrdering, int_cmp, nat_cmp, ordering_then}
use Rattle.std.specs.declared.cmp.Ordering.{Ordering}
use Rattle.std.specs.declared.cmp.Ordering.TheVariants.{Less, Equal, Greater}
use Rattle.std.proofs.lemmas.Int.{ints}
use Rattle.std.proofs.lemmas.Nat.{mod_below}
use Rattle.packed_triples.specs.declared.symbol.Kind.{Kind}
use Rattle.packed_triples.specs.declared.symbol.Kind.TheVariants.{Identifier, Name, Integer}
use Rattle.packed_triples.specs.Packed.{IsExact, symbol_at}
use Rattle.node_memory.specs.Packed.{rank_of, sym_cmp}

naturals : (a b : ℕ) → int_cmp (pos a) (pos b) ≡ nat_cmp a b
naturals a b = sym (int_cmp_is (pos a) (pos b) (nat_cmp a b) (by (nat_cmp a b) (ranks a b)))
  where
    by : (o : Ordering) → MatchOrdering o (a < b) (a ≡ b) (b < a) → MatchOrdering o (pos a <ℤ pos b) (pos a ≡ pos b) (pos b <ℤ pos a)
    by Less h = grind (arith, ints)
    by Equal h = ap pos h
    by Greater h = grind (arith, ints)

-- letters and numbers below 2^32 compare as the numbers that they make together
pairs : (a b m n : ℕ) → m < 4294967296 → n < 4294967296 → ordering_then (nat_cmp a b) (nat_cmp m n) ≡ nat_cmp (a * 4294967296 + m) (b * 4294967296 + n)
pairs a b m n small little = nat_cmp_is (a * 4294967296 + m) (b * 4294967296 + n) (ordering_then (nat_cmp a b) (nat_cmp m n)) (by (nat_cmp a b) (nat_cmp m n) (ranks a b) (ranks m n))
  where
    by : (o p : Ordering) → MatchOrdering o (a < b) (a ≡ b) (b < a) → MatchOrdering p (m < n) (m ≡ n) (n < m)
        → MatchOrdering (ordering_then o p) (a * 4294967296 + m < b * 4294967296 + n) (a * 4294967296 + m ≡ b * 4294967296 + n) (b * 4294967296 + n < a * 4294967296 + m)
    by Less p h k = omega arith
    by Equal Less h k = omega arith
    by Equal Equal h k = omega arith
    by Equal Greater h k = omega arith
    by Greater p h k = omega arith

below : (n : ℤ) → unsigned_abs n % 4294967296 < 4294967296
below n = mod_below (unsigned_abs n) 4294967296 (omega arith)

pub told_by_numbers : (k : Kind) (n : ℤ) (l : Kind) (m : ℤ) → IsExact k n → IsExact l m → ordering_then (nat_cmp (rank_of k) (rank_of l)) (int_cmp n m) ≡ sym_cmp (symbol_at k n) (symbol_at l m)
told_by_numbers Identifier n Identifier m first second =
    ap₂ int_cmp (sym first) (sym second)
    ∙ naturals (unsigned_abs n / 4294967296 % 256 * 4294967296 + unsigned_abs n % 4294967296) (unsigned_abs m / 4294967296 % 256 * 4294967296 + unsigned_abs m % 4294967296)
    ∙ sym (pairs (unsigned_abs n / 4294967296 % 256) (unsigned_abs m / 4294967296 % 256) (unsigned_abs n % 4294967296) (unsigned_abs m % 4294967296) (below n) (below m))
told_by_numbers Identifier n Name m first second = refl
told_by_numbers Identifier n Integer m first second = refl
told_by_numbers Name n Identifier m first second = refl
told_by_numbers Name n Name m first second = ap₂ int_cmp (sym first) (sym second) ∙ naturals (unsigned_abs n % 4294967296) (unsigned_abs m % 4294967296)
told_by_numbers Name n Integer m first second = refl
told_by_numbers Integer n Identifier m first second = refl
told_by_numbers Integer n Name m first second = refl
told_by_numbers Integer n Integer m first second = refl
