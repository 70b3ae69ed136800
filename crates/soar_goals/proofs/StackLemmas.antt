-- Changes of one goal of the stack.
use Rattle.std.proofs.Common.{◌≡◌, refl, ap, sym, subst, ℕ, zero, suc, ◌≤◌, List, [], ◌∷◌, ◌++◌, length, slice_index_or, slice_set}
use Rattle.defs_soar.specs.declared.goal.Goal.{Goal}
use Rattle.soar_goals.specs.Stack.{IsStack, with_change}

-- the goal that stands there is replaced by its change
pub replaced : (change : Goal → Goal) (below : ℕ) (goals : List Goal) (d : Goal)
    → slice_set goals below (change (slice_index_or goals below d)) ≡ with_change below change goals
replaced change below [] d = refl
replaced change zero (goal ∷ goals) d = refl
replaced change (suc below) (goal ∷ goals) d = ap (λ (all : List Goal). goal ∷ all) (replaced change below goals d)

-- there are as many goals as before
pub same_length : (change : Goal → Goal) (below : ℕ) (goals : List Goal) → length (with_change below change goals) ≡ length goals
same_length change below [] = refl
same_length change zero (goal ∷ goals) = refl
same_length change (suc below) (goal ∷ goals) = ap suc (same_length change below goals)

pub still_a_stack : (change : Goal → Goal) (below : ℕ) (goals : List Goal) → IsStack goals → IsStack (with_change below change goals)
still_a_stack change below goals h =
    let same : length goals ≡ length (with_change below change goals) = sym (same_length change below goals) in
    record { some = subst (λ n. 1 ≤ n) same h.some; few = subst (λ n. n ≤ 100) same h.few }

-- the goal below those that are above it
pub changed_behind : (change : Goal → Goal) (above : List Goal) (goal : Goal) (deeper : List Goal)
    → with_change (length above) change (above ++ goal ∷ deeper) ≡ above ++ change goal ∷ deeper
changed_behind change [] goal deeper = refl
changed_behind change (top ∷ above) goal deeper = ap (λ (all : List Goal). top ∷ all) (changed_behind change above goal deeper)
