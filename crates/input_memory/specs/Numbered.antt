-- Keys of one kind, each with numbers. No public clause cites this.
use Rattle.std.specs.Prelude.{ℕ, Bool, List, is_some}
use Rattle.std.specs.Map.{lookup}
use Rattle.std.specs.Ordering.{is_eq, nat_cmp, ordering_then}
use Rattle.std.specs.declared.cmp.Ordering.{Ordering}

-- keys with numbers, as a map keeps them
abbrev pub Numbered : Type 0 → Type 0
Numbered K = List ((K × ℕ) × Unit {0})

-- by key, then by number
abbrev pub numbered_cmp : {K : Type 0} → (K → K → Ordering) → K × ℕ → K × ℕ → Ordering
numbered_cmp cmp p q = ordering_then (cmp p.0 q.0) (nat_cmp p.1 q.1)

-- whether the number stands at the key
abbrev pub stands : {K : Type 0} → (K → K → Ordering) → Numbered K → K × ℕ → Bool
stands cmp numbered q = is_some (lookup (λ k. is_eq (numbered_cmp cmp q k)) numbered)
