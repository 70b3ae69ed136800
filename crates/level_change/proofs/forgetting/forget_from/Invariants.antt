use Rattle.level_change.specs.Links.{level_at}
use Rattle.level_change.proofs.HadSteps.{Fore}
use Rattle.level_change.proofs.forgetting.forget_from.Given as goal

abbrev pub invariant-values : goal.invariant-values
invariant-values l = Fore l.goals l.values l.level (level_at l.levels.entries l.initial.told.entries) l.initial.had l.initial.waiting l.value-index (level_at l.levels.entries l.told.entries) l.had l.waiting
