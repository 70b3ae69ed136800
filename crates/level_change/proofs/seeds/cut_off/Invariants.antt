use Rattle.std.proofs.Common.{◌≡◌, map, filter, take}
use Rattle.level_change.specs.Links.{level_at}
use Rattle.level_change.specs.Seeds.{is_cut}
use Rattle.level_change.proofs.seeds.cut_off.Given as goal

abbrev pub invariant-gone : goal.invariant-gone
invariant-gone l = l.seeds ≡ map (λ t. t.value) (filter (is_cut (level_at l.levels.entries l.told.entries) l.links l.goals) (take l.triple-index l.gone))
