-- The variables that have a mark, as a list.
use Rattle.std.specs.Prelude.{ℕ, suc, Bool, true, false, List, [], ◌∷◌}

abbrev pub members_from : ℕ → List Bool → List ℕ
members_from number [] = []
members_from number (true ∷ marks) = number ∷ members_from (suc number) marks
members_from number (false ∷ marks) = members_from (suc number) marks

unfoldable pub members : List Bool → List ℕ
members marks = members_from 0 marks
