use Rattle.std.proofs.Common.{arith, drop}
use Rattle.std.proofs.lemmas.Int.{ints}
use Rattle.defs_soar.specs.Choice.{sum_of}
use Rattle.soar_choose.specs.Told.{sum_at}
use Rattle.soar_choose.proofs.RangeLemmas.{part_within, range_at, rest_within, sum_step, sum_within}
use Rattle.soar_choose.proofs.sums.Sums.of.Goals as goal

pub add_row-requires-clause-sums : goal.add_row-requires-clause-sums
add_row-requires-clause-sums c = λ s.
    let rows = c.args.rows.now in
    part_within (sum_at c.rows.sums s) (sum_of (drop c.rows.row-index rows) s) (sum_of rows s) (c.rows.invariant s)
    (rest_within c.rows.row-index rows s c.requires.few c.requires.range) (sum_within rows s c.requires.few c.requires.range)

pub add_row-requires-clause-number : goal.add_row-requires-clause-number
add_row-requires-clause-number c = range_at c.args.rows.now c.rows.row-index c.rows-test.true c.requires.range

pub rows-preserved : goal.rows-preserved
rows-preserved c = λ s. omega (arith, ints, c.in_ok-add_row.ensures s, sum_step c.args.rows.now c.rows.row-index s c.rows-test.true, c.rows.invariant s)
