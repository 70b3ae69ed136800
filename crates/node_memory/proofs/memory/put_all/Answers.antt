use Rattle.std.proofs.Common.{◌∙◌}
use Rattle.std.specs.Ordering.{nat_cmp}
use Rattle.std.specs.Cmp.Lexicographic.{slice_cmp}
use Rattle.std.specs.BTreeMap.{get}
use Rattle.node_memory.proofs.HoldLemmas.{put_next}
use Rattle.node_memory.proofs.memory.put_all.Goals as goal

pub come-preserved : goal.come-preserved
come-preserved c = (
  λ q. put_next c.args.come.now c.come.row-index c.row-item.result (get (slice_cmp nat_cmp) c.come.memory.rows) (get (slice_cmp nat_cmp) c.put.new.memory.rows) c.come-test.true c.row-item.is c.in_ok-put.ensures.found q ∙ c.come.invariant.0 q,
  c.in_ok-put.ensures.joined ∙ c.come.invariant.1,
  c.in_ok-put.ensures.indexed,
)
