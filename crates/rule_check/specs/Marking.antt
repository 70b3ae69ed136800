-- Which variables are among some, kept as a mark for each number.
use Rattle.std.specs.Prelude.{◌≡◌, ℕ, Bool, false, List, ◌++◌, slice_index_or}
use Rattle.soar_rule.specs.Variables.{is_among}

-- the mark of a number; a number beyond the last has none
abbrev pub is_marked : List Bool → ℕ → Bool
is_marked marks number = slice_index_or marks number false

-- these are the variables with a mark
abbrev pub AreMarked : List Bool → List ℕ → Type 0
AreMarked marks variables = (number : ℕ) → is_marked marks number ≡ is_among variables number

-- these variables joined those with a mark
abbrev pub Joined : List Bool → List Bool → List ℕ → Type 0
Joined old new more = (variables : List ℕ) → AreMarked old variables → AreMarked new (variables ++ more)
