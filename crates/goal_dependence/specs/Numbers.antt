-- Firings of a number: how the code goes, cited by no public clause.
use Rattle.std.specs.Prelude.{ℕ, Bool, ◌==◌, List}
use Rattle.std.specs.List.{list_any}
use Rattle.defs_soar.specs.History.{FiringOf}

-- one of the firings has the number
abbrev pub has_number : List FiringOf → ℕ → Bool
has_number firings n = list_any (λ f. f.number == n) firings
