-- The goals that go where none went before.
use Rattle.std.specs.Prelude.{◌≡◌, ℕ, suc, List, [], drop, length}
use Rattle.defs_soar.specs.declared.goal.Goal.{Goal}
use Rattle.defs_soar.specs.Agents.{Agent}
use Rattle.defs_soar.specs.Decision.{cut_below}
use Rattle.defs_soar.specs.Trimming.{at_depths, with_all_removed}

-- each is deeper than those above it, so they are in order
abbrev pub RemovalsAlone : Type 0
RemovalsAlone = (depth : ℕ) (goals : List Goal) → with_all_removed (at_depths depth goals) [] ≡ at_depths depth goals

-- the goals below as many as stay, whichever these are
abbrev pub CutsRemove : Type 0
CutsRemove = (a : Agent) (goals : List Goal) → (cut_below a goals).removed ≡ at_depths (suc (length goals)) (drop (length goals) a.holding.goals)
