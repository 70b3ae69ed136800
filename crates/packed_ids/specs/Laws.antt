-- Letters and numbers as the keys of maps: which are one, and which comes first.
use Rattle.std.specs.Prelude.{◌≡◌, ℕ, ◌+◌, ◌*◌, ◌==◌, true}
use Rattle.std.specs.Cmp.{IsEquivalence, IsTotalOrder, both_tied, nat_cmp_total, unsigned_ties}
use Rattle.std.specs.Hash as fed
use Rattle.std.specs.Ordering.{eq_by_cmp, nat_cmp}
use Rattle.std.proofs.Common.{ap₂}
use Rattle.std.proofs.lemmas.Bool.{and_parts, eqb-true}
use Rattle.std.proofs.lemmas.Cmp.{and_equiv, nat_eq_equiv, on_equiv, on_total, then_total}
use Rattle.std.proofs.lemmas.Nat.{div-add-mod'}
use Rattle.packed_ids.specs.Ids.{Id, id_cmp, id_eq, id_writes, number_of, pair_of}

pub whole : (n : ℕ) → number_of (pair_of n) ≡ n
whole n = div-add-mod' n 4294967296

pub id_equivalence : IsEquivalence id_eq
id_equivalence = and_equiv (on_equiv (λ q. q.0) nat_eq_equiv) (on_equiv (λ q. q.1) nat_eq_equiv)

pub id_total : IsTotalOrder id_cmp
id_total = then_total (on_total (λ q. q.0) nat_cmp_total) (on_total (λ q. q.1) nat_cmp_total)

pub id_tied : (a b : Id) → id_eq a b ≡ eq_by_cmp id_cmp a b
id_tied a b = both_tied (a.0 == b.0) (a.1 == b.1) (nat_cmp a.0 b.0) (nat_cmp a.1 b.1) (unsigned_ties a.0 b.0) (unsigned_ties a.1 b.1)

pub same_writes : (a b : Id) → id_eq a b ≡ true → id_writes a ≡ id_writes b
same_writes a b same =
    let parts = and_parts (a.0 == b.0) (a.1 == b.1) same in
    ap₂ (λ l n. fed.u64 (l * 4294967296 + n)) (eqb-true a.0 b.0 parts.0) (eqb-true a.1 b.1 parts.1)
