-- What the firings that are kept have to be, so that walks back through them end.
use Rattle.std.specs.Prelude.{ℕ, ◌<◌, List, flat_map}
use Rattle.defs_soar.specs.Explanation.{maker_named}
use Rattle.defs_soar.specs.History.{FiringOf}
use Rattle.defs_soar.specs.Laws.{IsIn}

-- each firing used what lesser numbers made
abbrev pub MakersAreEarlier : List FiringOf → Type 0
MakersAreEarlier firings = (f : FiringOf) → IsIn f firings → (n : ℕ) → IsIn n (flat_map maker_named f.used) → n < f.number
