-- What firings make is in range.
use Rattle.std.specs.Prelude.{ℕ, Bool, List, [], ◌∷◌, map}
use Rattle.soar_rule.specs.Productions.{ActionOf}
use Rattle.soar_choose.specs.Rows.{AreInRange, IsNumberInRange}
use Rattle.defs_soar.specs.declared.goal.Goal.{Goal}
use Rattle.defs_soar.specs.declared.preference.Wish.{Wish}
use Rattle.defs_soar.specs.Firing.{made_by}
use Rattle.defs_soar.specs.Naming.{Naming}
use Rattle.defs_soar.specs.Support.{row_of}

-- each numeric wish is at most 1,000,000,000 in size
abbrev pub AreWishesInRange : List Wish → Type 0
AreWishesInRange [] = Unit {0}
AreWishesInRange (w ∷ wishes) = IsNumberInRange w.kind w.referent × AreWishesInRange wishes

-- the wishes of a firing are, whatever its actions and what is bound
abbrev pub MadeAreInRange : Type 0
MadeAreInRange = (goals : List Goal) (actions : List ActionOf) (naming : Naming) → AreWishesInRange (made_by goals actions naming).wishes

-- wishes in range give rows in range
abbrev pub RowsOfWishesAreInRange : Type 0
RowsOfWishesAreInRange =
    (goals : List Goal) (number : ℕ) (kind : Bool) (wishes : List Wish) → AreWishesInRange wishes → AreInRange (map (row_of goals number kind) wishes)

-- so the rows of a firing are
abbrev pub RowsMadeAreInRange : Type 0
RowsMadeAreInRange =
    (goals : List Goal) (actions : List ActionOf) (naming : Naming) (number : ℕ) (kind : Bool)
    → AreInRange (map (row_of goals number kind) (made_by goals actions naming).wishes)
