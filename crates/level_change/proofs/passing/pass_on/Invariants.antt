use Rattle.level_change.specs.Links.{level_at}
use Rattle.level_change.proofs.PassSteps.{Going}
use Rattle.level_change.proofs.passing.pass_on.Given as goal

abbrev pub invariant-values : goal.invariant-values
invariant-values l = Going l.goals l.values l.level (level_at l.levels.entries l.initial.told.entries) l.initial.waiting l.initial.moved l.value-index (level_at l.levels.entries l.told.entries) l.waiting l.moved
