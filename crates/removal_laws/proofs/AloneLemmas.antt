-- Goals that stand below one another are in order.
use Rattle.std.proofs.Common.{◌≡◌, refl, sym, ◌∙◌, ap, ℕ, suc, ◌-◌, ◌≤◌, arith, List, [], ◌∷◌, ◌++◌, length}
use Rattle.std.specs.Prelude.{drop}
use Rattle.std.proofs.lemmas.List.{append_assoc, append-nil}
use Rattle.defs_soar.specs.declared.goal.Goal.{Goal}
use Rattle.defs_soar.specs.Trimming.{at_depths, RemovedGoal, with_all_removed, with_removed}
use Rattle.removal_laws.specs.Alone.{CutsRemove, RemovalsAlone}

-- none of them is deeper than the depth
abbrev AreWithin : ℕ → List RemovedGoal → Type 0
AreWithin depth [] = Unit {0}
AreWithin depth (g ∷ goals) = (g.depth ≤ depth) × AreWithin depth goals

-- the deepest comes last
comes_last : (g : RemovedGoal) (l : List RemovedGoal) → AreWithin g.depth l → with_removed g l ≡ l ++ g ∷ []
comes_last g [] within = refl
comes_last g (x ∷ l) within = let later = comes_last g l within.1 in let high = within.0 in grind arith

within_more : (depth : ℕ) (l : List RemovedGoal) (g : RemovedGoal) → AreWithin depth l → g.depth ≡ depth → AreWithin (suc depth) (l ++ g ∷ [])
within_more depth [] g within is = (omega arith, tt)
within_more depth (x ∷ l) g within is = let high = within.0 in (omega arith, within_more depth l g within.1 is)

-- goals deeper than those that went come behind them
deeper_follow : (depth : ℕ) (goals : List Goal) (l : List RemovedGoal) → AreWithin depth l → with_all_removed (at_depths depth goals) l ≡ l ++ at_depths depth goals
deeper_follow depth [] l within = sym (append-nil l)
deeper_follow depth (g ∷ goals) l within =
    let here : RemovedGoal = record { id = g.id; depth = depth } in
    ap (with_all_removed (at_depths (suc depth) goals)) (comes_last here l within)
    ∙ deeper_follow (suc depth) goals (l ++ here ∷ []) (within_more depth l here within refl)
    ∙ append_assoc l (here ∷ []) (at_depths (suc depth) goals)

pub removals_alone : RemovalsAlone
removals_alone depth goals = deeper_follow depth goals [] tt

pub cuts_remove : CutsRemove
cuts_remove a goals =
    let stay : suc (length goals) - 1 ≡ length goals = omega arith in
    ap (λ n. with_all_removed (at_depths (suc (length goals)) (drop n a.holding.goals)) []) stay
    ∙ removals_alone (suc (length goals)) (drop (length goals) a.holding.goals)
