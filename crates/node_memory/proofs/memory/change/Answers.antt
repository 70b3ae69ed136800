use Rattle.std.proofs.Common.{◌∙◌}
use Rattle.std.specs.Ordering.{nat_cmp}
use Rattle.std.specs.Cmp.Lexicographic.{slice_cmp}
use Rattle.std.specs.BTreeMap.{get}
use Rattle.std.proofs.lemmas.Result.{on_ok_weaker}
use Rattle.node_memory.specs.Memories.{puts, takens}
use Rattle.node_memory.proofs.HoldLemmas.{change_holds, holds_same, puts_same}
use Rattle.node_memory.proofs.memory.change.Goals as goal

pub returns-clause-holds : goal.returns-clause-holds
returns-clause-holds c =
    let found = get (slice_cmp nat_cmp) c.args.memory.now.rows in
    let between = get (slice_cmp nat_cmp) c.take_all.new.memory.rows in
    let after = get (slice_cmp nat_cmp) c.put_all.new.memory.rows in
    on_ok_weaker c.put_all.result
    (λ put rows0 rows1 holds rows_change one.
    holds_same (puts c.args.come.now (takens c.args.gone.now found)) after rows1 (change_holds found rows0 rows1 c.args.come.now c.args.gone.now holds rows_change one)
    (λ q. put q ∙ puts_same c.args.come.now between (takens c.args.gone.now found) c.in_ok-take_all.ensures.found q)) c.put_all.ensures.found
