use Rattle.std.proofs.Common.{arith}
use Rattle.soar_choose.proofs.DrawLemmas.{greatest_within}
use Rattle.soar_choose.proofs.drawing.greatest.Goals as goal

pub returns-in-Some-clause-within : goal.returns-in-Some-clause-within
returns-in-Some-clause-within c = let w = greatest_within c.in-Some.first.now c.in-Some.rest.now in grind (arith, w)
