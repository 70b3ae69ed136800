-- The rows behind a negation, by the rows of its inside.
use Rattle.std.specs.Prelude.{◌≡◌, ℕ, Bool, false, not, List, [], ◌∷◌, ◌++◌, length, map, filter, take, flat_map}
use Rattle.std.specs.List.{list_any}
use Rattle.defs_match.specs.Laws.{IsIn}
use Rattle.defs_match.specs.Rows.{Row}
use Rattle.defs_match.specs.Testing.{Bindings}
use Rattle.node_memory.specs.Changes.{begins}
use Rattle.node_memory.specs.Memories.{Found, row_found}

-- each row has so many tags
abbrev pub AllLong : ℕ → List Row → Type 0
AllLong n rs = (r : Row) → IsIn r rs → length r.tags ≡ n

-- some row begins with these tags
abbrev pub is_blocked : List Row → List ℕ → Bool
is_blocked inner tags = list_any (λ (z : Row). begins tags z.tags) inner

abbrev pub kept : List Row → List Row → List Row
kept inner rows = filter (λ (r : Row). not (is_blocked inner r.tags)) rows

-- the rows, of n tags each, with which some row begins that the inside gained
abbrev pub fronts : ℕ → List Row → List (List ℕ)
fronts n inner = map (λ (z : Row). take n z.tags) inner

-- the rows with which some row began that the inside lost
abbrev pub freed : List Row → List (List ℕ) → List Row
freed rows gone = filter (λ (r : Row). list_any (begins r.tags) gone) rows

abbrev pub negation_come : List Row → List Row → List Row → List (List ℕ) → List Row
negation_come rows rows_come inner inner_gone = kept inner rows_come ++ kept inner (freed rows inner_gone)

abbrev pub negation_gone : ℕ → List (List ℕ) → List Row → List (List ℕ)
negation_gone n rows_gone inner_come = rows_gone ++ fronts n inner_come

-- whether the first of some entries begins with these tags
abbrev pub first_begins : List ℕ → List ((List ℕ) × Bindings) → Bool
first_begins t [] = false
first_begins t (e ∷ es) = begins t e.0

-- the rows of n tags with which these begin
abbrev pub found_rows : Found → ℕ → List (List ℕ) → List Row
found_rows f n gone = flat_map (λ t. row_found (take n t) (f (take n t))) gone

-- the rows that come to a negation, as they are found
abbrev pub let_through : Found → ℕ → List Row → List Row → List (List ℕ) → List Row
let_through f n rows_come inner inner_gone = kept inner rows_come ++ kept inner (found_rows f n inner_gone)
