-- A decision is the walk, and then the step that follows from there.
use Rattle.std.proofs.Common.{◌≡◌, refl}
use Rattle.defs_soar.specs.Agents.{Agent}
use Rattle.defs_soar.specs.Decision.{after_walk, cut_below, decided_by}
use Rattle.defs_soar.specs.Resettling.{resettled}
use Rattle.defs_soar.specs.Walk.{Decided, Walked, meets, selects_operator}
use Rattle.decision_parts.specs.Deciding.{decision_step, removed_in_walk, walk_of, walked_state}

-- settling does not ask which goals, rows and firings were held before
steps_so : (a : Agent) (w : Walked) (d : Decided) → after_walk a (record w { decided = d }) ≡ decision_step (walked_state a w) (cut_below a w.goals).removed d
unfolding resettled
steps_so a w (selects_operator operator takes) = refl
steps_so a w (meets why items) = refl

pub decided_is : (s : Agent) → decided_by s ≡ decision_step (walked_state s (walk_of s)) (removed_in_walk s) (walk_of s).decided
unfolding decided_by
decided_is s = steps_so s (walk_of s) (walk_of s).decided
