-- Running cycles.
use Rattle.std.specs.Prelude.{ℕ}
use Rattle.defs_soar.specs.Agents.{Agent}
use Rattle.defs_soar.specs.Cycle.{run}
use Rattle.defs_soar.specs.Decision.{decided_by}
use Rattle.defs_soar.specs.Learning.{with_learning}
use Rattle.defs_soar.specs.Phases.{Course}

-- so many cycles, in which the agent learns, or until it halts
abbrev pub run_learning : ℕ → Agent → Course
run_learning = run decided_by with_learning
