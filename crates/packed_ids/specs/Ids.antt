-- A letter and a number as one number, and how they compare.
use Rattle.std.specs.Prelude.{ℕ, ◌+◌, ◌*◌, ◌/◌, ◌%◌, ◌==◌, Bool, ◌&&◌, List}
use Rattle.std.specs.Hash as fed
use Rattle.std.specs.Ordering.{nat_cmp, ordering_then}
use Rattle.std.specs.declared.cmp.Ordering.{Ordering}

-- a letter and a number
abbrev pub Id : Type 0
Id = ℕ × ℕ

-- 2^32 times the letter, and the number
abbrev pub number_of : Id → ℕ
number_of id = id.0 * 4294967296 + id.1

abbrev pub pair_of : ℕ → Id
pair_of n = (n / 4294967296, n % 4294967296)

abbrev pub id_eq : Id → Id → Bool
id_eq a b = (a.0 == b.0) && (a.1 == b.1)

-- by letter, then by number
abbrev pub id_cmp : Id → Id → Ordering
id_cmp a b = ordering_then (nat_cmp a.0 b.0) (nat_cmp a.1 b.1)

-- what is hashed: the one number
abbrev pub id_writes : Id → List (List ℕ)
id_writes id = fed.u64 (number_of id)
