-- A small history that was worked out by hand: the second firing used what the first made, and the third is of nothing that the second needs.
use Rattle.std.specs.Prelude.{◌≡◌, ℕ, suc, List, [], ◌∷◌, length}
use Rattle.defs_soar.specs.declared.firing.How.TheVariants as how
use Rattle.defs_soar.specs.Explanation.{chain_of, explaining}
use Rattle.defs_soar.specs.History.{FiringOf}
use Rattle.learning_laws.specs.Worked.{copying, wanted}
use Rattle.agent_laws.specs.Records.{IsPartOf}

abbrev pub using_it : FiringOf
using_it = record copying { number = 2; used = record { element = wanted; how = how.Made 1 } ∷ [] }

abbrev pub apart_from_it : FiringOf
apart_from_it = record copying { number = 3 }

abbrev pub all_three : List FiringOf
all_three = copying ∷ using_it ∷ apart_from_it ∷ []

abbrev pub first_two : List FiringOf
first_two = copying ∷ using_it ∷ []

abbrev pub second : List ℕ
second = 2 ∷ []

-- the first two have all that the second reaches; a firing that stood twice would be told twice
pub record IsWorked : Type 0 where
  pub reached : explaining all_three second ≡ 1 ∷ 2 ∷ []
  pub part : IsPartOf first_two all_three second
  pub twice : length (chain_of (copying ∷ first_two) second []).steps ≡ suc (length (chain_of all_three second []).steps)
