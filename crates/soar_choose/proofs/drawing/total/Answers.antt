use Rattle.std.proofs.Common.{arith}
use Rattle.std.proofs.lemmas.Int.{ints}
use Rattle.std.proofs.lemmas.List.{drop_more}
use Rattle.std.proofs.Common.{ap}
use Rattle.defs_soar.specs.Draw.{total_of}
use Rattle.soar_choose.proofs.DrawLemmas.{no_candidate, sums_step}
use Rattle.soar_choose.proofs.drawing.total.Goals as goal

pub sums-preserved : goal.sums-preserved
sums-preserved c =
    let here = sums_step c.args.left.now c.sums.s-index c.sums-test.true c.sums.invariant.rest in
    let split = ap total_of (drop_more c.args.left.now c.sums.s-index no_candidate c.sums-test.true) in
    record {
      whole = omega (arith, ints, split, here.0, c.from-total.ensures);
      rest = here.1;
      low = omega (arith, ints, here.0, c.from-total.ensures);
      high = omega (arith, ints, here.0, c.from-total.ensures);
    }
