use Rattle.std.proofs.Common.{◌≡◌, length}
use Rattle.soar_choose.specs.Told.{all_told, not_alone}
use Rattle.soar_choose.proofs.indifference.all_told.Given as goal

abbrev pub invariant-values : goal.invariant-values
invariant-values l = record {
  told : all_told l.alone l.pairs l.rest ≡ all_told l.alone l.pairs l.values;
  apart : l.apart ≡ not_alone l.alone l.rest;
}

abbrev pub decreases-values : goal.decreases-values
decreases-values l = length l.rest
