use Rattle.node_memory.proofs.MemoryLemmas.{row_step, rows_all}
use Rattle.node_memory.proofs.indexing.add_rows_keys.Goals as goal

pub rows-preserved : goal.rows-preserved
rows-preserved c k = row_step c.args.joined c.args.rows.now c.rows.row-index c.row-item.result c.rows.index c.add_key.new.index c.args.index.now k c.rows-test.true c.row-item.is (c.rows.invariant k) (c.in_ok-add_key.ensures k)

pub returns : goal.returns
returns c k = rows_all c.args.joined c.args.rows.now c.rows.row-index c.rows.index c.args.index.now k c.rows-test.false (c.rows.invariant k)
