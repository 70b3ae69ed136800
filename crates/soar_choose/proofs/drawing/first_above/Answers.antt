use Rattle.std.proofs.Common.{arith, ◌∙◌}
use Rattle.std.proofs.lemmas.Int.{ints}
use Rattle.soar_choose.proofs.DrawLemmas.{first_above_step, sums_step}
use Rattle.soar_choose.proofs.drawing.first_above.Goals as goal

pub sums-preserved : goal.sums-preserved
sums-preserved c =
    let here = sums_step c.args.left.now c.sums.at c.sums-test.true c.sums.invariant.rest in
    record {
      whole = first_above_step c.args.number _ _ c.args.left.now c.sums.at c.sums-test.true
          (omega (arith, ints, here.0, c.from-so_far.ensures))
          (grind (arith, ints, here.0, c.from-so_far.ensures, c.from.ensures)) ∙ c.sums.invariant.whole;
      rest = here.1;
      low = omega (arith, ints, here.0, c.from-so_far.ensures);
      high = omega (arith, ints, here.0, c.from-so_far.ensures);
    }
