-- Goals that went, by depth: it does not matter which of two different depths came first.
use Rattle.std.proofs.Common.{◌≡◌, refl, sym, ◌∙◌, ap, ℕ, suc, ◌+◌, ◌≤◌, ◌<◌, arith, List, [], ◌∷◌, ◌++◌, length}
use Rattle.defs_soar.specs.declared.goal.Goal.{Goal}
use Rattle.defs_soar.specs.Trimming.{at_depths, RemovedGoal, with_all_removed, with_removed}

pub removals_swap : (g h : RemovedGoal) (l : List RemovedGoal) → g.depth < h.depth → with_removed g (with_removed h l) ≡ with_removed h (with_removed g l)
removals_swap g h [] above = grind arith
removals_swap g h (x ∷ l) above = let later = removals_swap g h l above in grind arith

-- all of them are deeper than the depth
abbrev pub AreBelow : ℕ → List RemovedGoal → Type 0
AreBelow depth [] = Unit {0}
AreBelow depth (g ∷ goals) = (depth < g.depth) × AreBelow depth goals

pub below_at : (depth from : ℕ) (goals : List Goal) → depth < from → AreBelow depth (at_depths from goals)
below_at depth from [] low = tt
below_at depth from (g ∷ goals) low = (low, below_at depth (suc from) goals (omega arith))

-- one that is higher may come first or last
pub higher_swaps : (g : RemovedGoal) (goals l : List RemovedGoal) → AreBelow g.depth goals → with_removed g (with_all_removed goals l) ≡ with_all_removed goals (with_removed g l)
higher_swaps g [] l below = refl
higher_swaps g (h ∷ goals) l below = higher_swaps g goals (with_removed h l) below.1 ∙ ap (with_all_removed goals) (removals_swap g h l below.0)

-- so may goals above others
pub all_swap : (from : ℕ) (above : List Goal) (next : ℕ) (below : List Goal) (l : List RemovedGoal) → from + length above ≤ next
    → with_all_removed (at_depths from above) (with_all_removed (at_depths next below) l) ≡ with_all_removed (at_depths next below) (with_all_removed (at_depths from above) l)
all_swap from [] next below l far = refl
all_swap from (g ∷ above) next below l far =
    ap (with_all_removed (at_depths (suc from) above)) (higher_swaps (record { id = g.id; depth = from }) (at_depths next below) l (below_at from next below (omega arith)))
    ∙ all_swap (suc from) above next below (with_removed (record { id = g.id; depth = from }) l) (omega arith)

pub all_join : (goals others l : List RemovedGoal) → with_all_removed (goals ++ others) l ≡ with_all_removed others (with_all_removed goals l)
all_join [] others l = refl
all_join (g ∷ goals) others l = all_join goals others (with_removed g l)

pub depths_join : (depth : ℕ) (goals others : List Goal) → at_depths depth (goals ++ others) ≡ at_depths depth goals ++ at_depths (depth + length goals) others
depths_join depth [] others = let same : depth ≡ depth + 0 = omega arith in ap (λ n. at_depths n others) same
depths_join depth (g ∷ goals) others =
    let same : suc depth + length goals ≡ depth + suc (length goals) = omega arith in
    ap (λ l. record { id = g.id; depth = depth } ∷ l) (depths_join (suc depth) goals others ∙ ap (λ n. at_depths (suc depth) goals ++ at_depths n others) same)

-- goals that go later, and are higher, may go at once with those that went earlier
pub later_and_earlier : (depth : ℕ) (later earlier : List Goal) (l : List RemovedGoal)
    → with_all_removed (at_depths depth later) (with_all_removed (at_depths (depth + length later) earlier) l) ≡ with_all_removed (at_depths depth (later ++ earlier)) l
later_and_earlier depth later earlier l =
    all_swap depth later (depth + length later) earlier l (omega arith)
    ∙ sym (all_join (at_depths depth later) (at_depths (depth + length later) earlier) l)
    ∙ ap (λ goals. with_all_removed goals l) (sym (depths_join depth later earlier))
