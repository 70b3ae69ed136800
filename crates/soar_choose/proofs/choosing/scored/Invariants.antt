use Rattle.std.proofs.Common.{◌≡◌, map, take}
use Rattle.soar_choose.specs.Told.{scored_by}
use Rattle.soar_choose.proofs.choosing.scored.Given as goal

abbrev pub invariant-values : goal.invariant-values
invariant-values l = l.all ≡ map (scored_by l.numeric l.sums) (take l.value-index l.values)
