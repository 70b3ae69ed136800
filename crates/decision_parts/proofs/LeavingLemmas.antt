-- The goals that a walk leaves behind are those behind the last that stays.
use Rattle.std.proofs.Common.{◌≡◌, ◌∙◌, ℕ, suc, List, [], ◌∷◌, map, drop, length, refl, sym, ap}
use Rattle.std.proofs.lemmas.List.{length-map}
use Rattle.defs_soar.specs.declared.goal.Goal.{Goal}
use Rattle.defs_soar.specs.Agents.{Agent}
use Rattle.defs_soar.specs.Trimming.{at_depths}
use Rattle.removal_laws.specs.Alone.{CutsRemove}
use Rattle.step_report.specs.Reports.{removed_seen}
use Rattle.step_report.specs.declared.settled.Removed.{Removed}
use Rattle.wave_parts.proofs.RemovedLemmas.{removed_behind}
use Rattle.decision_parts.specs.Deciding.{removed_in_walk, walk_of}

depth_count : (depth : ℕ) (goals : List Goal) → length (at_depths depth goals) ≡ length goals
depth_count depth [] = refl
depth_count depth (g ∷ goals) = ap suc (depth_count (suc depth) goals)

pub as_many : (goals : List Goal) (before : List Removed) → map removed_seen before ≡ at_depths 1 goals → length before ≡ length goals
as_many goals before are = sym (length-map before removed_seen) ∙ ap length are ∙ depth_count 1 goals

pub behind_are : (goals : List Goal) (n : ℕ) (before removed : List Removed) → map removed_seen before ≡ at_depths 1 goals → removed ≡ drop n before → map removed_seen removed ≡ at_depths (suc n) (drop n goals)
behind_are goals n before removed before_are removed_are = ap (map removed_seen) removed_are ∙ removed_behind n goals before before_are

pub left_behind : CutsRemove → (s : Agent) (goals left : List Goal) (removed : List Removed) → goals ≡ s.holding.goals → left ≡ (walk_of s).goals
    → map removed_seen removed ≡ at_depths (suc (length left)) (drop (length left) goals) → map removed_seen removed ≡ removed_in_walk s
left_behind law s goals left removed goals_are left_are removed_are =
    removed_are ∙ ap (λ gs. at_depths (suc (length left)) (drop (length left) gs)) goals_are
    ∙ ap (λ (gs : List Goal). at_depths (suc (length gs)) (drop (length gs) s.holding.goals)) left_are
    ∙ sym (law s (walk_of s).goals)
