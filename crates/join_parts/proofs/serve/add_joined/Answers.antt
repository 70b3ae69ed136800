use Rattle.std.specs.Ordering.{nat_cmp}
use Rattle.std.specs.Cmp.Lexicographic.{slice_cmp}
use Rattle.std.specs.BTreeMap.{get}
use Rattle.std.proofs.lemmas.Result.{on_ok_weaker}
use Rattle.join_parts.proofs.ServeLemmas.{of_id}
use Rattle.join_parts.proofs.serve.add_joined.Goals as goal

pub returns : goal.returns
returns c =
    on_ok_weaker c.add_joined_at-2.result
    (λ second x. of_id c.args.p.now c.args.e.now (get (slice_cmp nat_cmp) c.args.memory.now.rows) c.args.out.now.items c.add_joined_at.new.out.items c.add_joined_at-2.new.out.items x (c.in_ok-add_joined_at.ensures x) (second x))
    c.add_joined_at-2.ensures
