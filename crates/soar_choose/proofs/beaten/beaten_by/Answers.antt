use Rattle.std.specs.List.{list_any}
use Rattle.defs_soar.specs.Sorted.{has_symbol}
use Rattle.soar_choose.specs.Told.{beats_in_row}
use Rattle.soar_choose.proofs.BeatenLemmas.{carried_on}
use Rattle.soar_choose.proofs.beaten.beaten_by.Goals as goal

pub rows-preserved : goal.rows-preserved
rows-preserved c = λ s.
    let f = beats_in_row c.args.candidates.now s in
    carried_on f c.args.rows.now c.rows.row-index (has_symbol c.rows.beaten s) (has_symbol c.add_worse.new.beaten s) (list_any f c.args.rows.now) c.rows-test.true
    (c.in_ok-add_worse.ensures s) (c.rows.invariant s)
