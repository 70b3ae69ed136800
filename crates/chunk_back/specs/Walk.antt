-- A walk back through firings, from the greatest number down.
use Rattle.std.specs.Prelude.{ℕ, suc, ◌<◌, List, [], ◌∷◌, flat_map, max, ◌⊎◌}
use Rattle.defs_soar.specs.Explanation.{explaining, firing_of, maker_named}
use Rattle.defs_soar.specs.History.{FiringOf}
use Rattle.defs_soar.specs.Laws.{IsIn}

-- ---- numbers in order

abbrev pub AllAbove : ℕ → List ℕ → Type 0
AllAbove n [] = Unit {0}
AllAbove n (m ∷ ms) = (n < m) × AllAbove n ms

-- each is less than all that come after it
abbrev pub Rising : List ℕ → Type 0
Rising [] = Unit {0}
Rising (n ∷ ns) = AllAbove n ns × Rising ns

-- the least number above all of them
abbrev pub above_all : List ℕ → ℕ
above_all [] = 0
above_all (n ∷ ns) = max (suc n) (above_all ns)

-- ---- the walk

abbrev pub numbers_of_makers : FiringOf → List ℕ
numbers_of_makers f = flat_map maker_named f.used

-- the makers of what the firing of a number used
abbrev pub makers_behind : List FiringOf → ℕ → List ℕ
makers_behind firings n = flat_map numbers_of_makers (firing_of firings n)

-- the numbers found and those that wait explain the roots, and only makers of what waits are not among them yet
pub record IsWalk (firings : List FiringOf) (roots waiting found : List ℕ) : Type 0 where
  pub below : (m n : ℕ) → IsIn m waiting → IsIn n found → m < n
  pub rising : Rising found
  pub waiting_explains : (n : ℕ) → IsIn n waiting → IsIn n (explaining firings roots)
  pub found_explains : (n : ℕ) → IsIn n found → IsIn n (explaining firings roots)
  pub has_roots : (n : ℕ) → IsIn n roots → IsIn n waiting ⊎ IsIn n found
  pub has_makers : (n m : ℕ) → IsIn n found → IsIn m (makers_behind firings n) → IsIn m waiting ⊎ IsIn m found
