use Rattle.std.proofs.Common.{take}
use Rattle.level_change.specs.Forgetting.{Cleared}
use Rattle.level_change.specs.Links.{level_at}
use Rattle.level_change.proofs.forgetting.clear_seeds.Given as goal

abbrev pub invariant-seeds : goal.invariant-seeds
invariant-seeds l = Cleared (level_at l.levels.entries l.initial.told.entries) (level_at l.levels.entries l.told.entries) l.had (take l.id-index l.seeds)
