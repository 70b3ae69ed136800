-- The selections that a decision's walk leaves rest on firings that are roots.
use Rattle.std.specs.Prelude.{ℕ, None}
use Rattle.defs_soar.specs.declared.goal.Goal.{Goal}
use Rattle.defs_soar.specs.Agents.{Agent}
use Rattle.defs_soar.specs.Decision.{view_of}
use Rattle.defs_soar.specs.Laws.{IsIn}
use Rattle.defs_soar.specs.Standing.{makers_of_goal, roots_of}
use Rattle.defs_soar.specs.Walk.{walked}
use Rattle.learning_laws.specs.LawfulAgents.{IsLawfulAgent}

abbrev pub WalksNameRoots : Type 0
WalksNameRoots = (a : Agent) (g : Goal) (n : ℕ) → IsLawfulAgent a → IsIn g (walked (view_of a) None a.holding.goals).goals → IsIn n (makers_of_goal g) → IsIn n (roots_of a)
