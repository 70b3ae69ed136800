-- Goals that went, with identifiers that the table has.
use Rattle.std.proofs.Common.{ℕ, suc, zero, nat_lt, Bool, true, false, cond, List, [], ◌∷◌, drop, inl, inr, refl}
use Rattle.soar_sym.specs.Words.{IsKnown, Texts}
use Rattle.defs_soar.specs.declared.goal.Goal.{Goal}
use Rattle.defs_soar.specs.Resettling.{removal_events}
use Rattle.defs_soar.specs.Trimming.{RemovedGoal, at_depths, with_all_removed, with_removed}
use Rattle.trace_laws.specs.Events.{AreEventsKnown}
use Rattle.wave_parts.specs.Seen.{AreGoalsKnown}

-- ---- removals

abbrev AreRemovedKnown : Texts → List RemovedGoal → Type 0
AreRemovedKnown words removed = AreEventsKnown words (removal_events removed)

one_more : (words : Texts) (goal : RemovedGoal) (removed : List RemovedGoal) → IsKnown words goal.id → AreRemovedKnown words removed → AreRemovedKnown words (with_removed goal removed)
one_more words goal [] h k = (h, tt)
one_more words goal (other ∷ others) h k = by (nat_lt goal.depth other.depth) (one_more words goal others h k.1)
  where
    by : (b : Bool) → AreRemovedKnown words (with_removed goal others) → AreRemovedKnown words (cond b (goal ∷ (other ∷ others)) (other ∷ with_removed goal others))
    by true later = (h, k)
    by false later = (k.0, later)

pub all_removed_known : (words : Texts) (later removed : List RemovedGoal) → AreRemovedKnown words later → AreRemovedKnown words removed → AreRemovedKnown words (with_all_removed later removed)
all_removed_known words [] removed h k = k
all_removed_known words (goal ∷ later) removed h k = all_removed_known words later (with_removed goal removed) h.1 (one_more words goal removed h.0 k)

-- ---- goals of a stack

pub goals_removed_known : (words : Texts) (letters : List ℕ) (depth count : ℕ) (goals : List Goal) → AreGoalsKnown words letters goals → AreRemovedKnown words (at_depths depth (drop count goals))
goals_removed_known words letters depth zero [] known = tt
goals_removed_known words letters depth (suc count) [] known = tt
goals_removed_known words letters depth zero (g ∷ goals) known =
    ((known g (inl refl)).id_known, goals_removed_known words letters (suc depth) zero goals (λ x is. known x (inr is)))
goals_removed_known words letters depth (suc count) (g ∷ goals) known = goals_removed_known words letters depth count goals (λ x is. known x (inr is))
