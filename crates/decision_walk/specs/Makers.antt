-- The numbers of the firings that made what is selected.
use Rattle.std.specs.Prelude.{ℕ, ◌≤◌, List, [], ◌∷◌, Option, Some, None}
use Rattle.defs_soar.specs.declared.goal.Goal.{Goal}
use Rattle.defs_soar.specs.declared.goal.Selection.{Selection}
use Rattle.defs_soar.specs.declared.preference.Preference.{Preference}
use Rattle.defs_soar.specs.Walk.{View, walked}

-- each row was made by a firing up to this one
abbrev pub AreFiringsUpTo : ℕ → List Preference → Type 0
AreFiringsUpTo last [] = Unit {0}
AreFiringsUpTo last (row ∷ rows) = (row.firing ≤ last) × AreFiringsUpTo last rows

abbrev pub IsMakerUpTo : ℕ → Option Selection → Type 0
IsMakerUpTo last None = Unit {0}
IsMakerUpTo last (Some selection) = selection.maker ≤ last

-- each selection was made by one up to this
abbrev pub AreMakersUpTo : ℕ → List Goal → Type 0
AreMakersUpTo last [] = Unit {0}
AreMakersUpTo last (goal ∷ goals) = IsMakerUpTo last goal.selected × AreMakersUpTo last goals

abbrev pub WalkKeepsMakers : Type 0
WalkKeepsMakers = (v : View) (goals : List Goal) (last : ℕ) → AreFiringsUpTo last v.rows → AreMakersUpTo last goals → AreMakersUpTo last (walked v None goals).goals
