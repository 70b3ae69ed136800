-- Firings that are kept under their numbers.
use Rattle.std.specs.Prelude.{◌≡◌, ◌≤◌, ℕ, Bool, ◌==◌, List, [], ◌∷◌, map, filter}
use Rattle.std.specs.List.{list_any}
use Rattle.defs_soar.specs.declared.firing.Firing.{Firing}
use Rattle.defs_soar.specs.Explanation.{explaining}
use Rattle.defs_soar.specs.History.{FiringOf, firing_seen}
use Rattle.defs_soar.specs.Standing.{AreFrom}

-- the firings that a record keeps, as plain data
abbrev pub recorded : List Firing → List FiringOf
recorded firings = map firing_seen firings

-- those that have one of these numbers, in order
abbrev pub is_of : List ℕ → FiringOf → Bool
is_of numbers f = list_any (λ n. n == f.number) numbers

abbrev pub of_numbers : List ℕ → List FiringOf → List FiringOf
of_numbers numbers firings = filter (is_of numbers) firings

-- the roots, and all that they rest on through what they used
abbrev pub reached_by : List ℕ → List FiringOf → List FiringOf
reached_by roots firings = of_numbers (explaining firings roots) firings

-- the firings that stand under some numbers, in order
abbrev pub firings_in : List (ℕ × Firing) → List Firing
firings_in entries = map (λ e. e.1) entries

-- each firing stands under its own number
abbrev pub HaveOwnNumbers : List (ℕ × Firing) → Type 0
HaveOwnNumbers [] = Unit {0}
HaveOwnNumbers (e ∷ entries) = (e.0 ≡ e.1.number) × HaveOwnNumbers entries

-- and no number stands twice
pub record IsNumbered (entries : List (ℕ × Firing)) : Type 0 where
  pub own_numbers : HaveOwnNumbers entries
  pub once : AreFrom (recorded (firings_in entries)) (recorded (firings_in entries))

-- and the bound is never below the least
pub record IsBounded (entries : List (ℕ × Firing)) (bound : ℕ) : Type 0 where
  pub numbered : IsNumbered entries
  pub least : 1000 ≤ bound
