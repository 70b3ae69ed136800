use Rattle.std.proofs.Common.{◌↔◌, ◌⊎◌, ◌∙◌, ◌++◌, ap, subst, List}
use Rattle.std.specs.Ordering.{nat_cmp}
use Rattle.std.specs.Cmp.Lexicographic.{slice_cmp}
use Rattle.std.specs.BTreeMap.{get}
use Rattle.defs_match.specs.Laws.{IsIn}
use Rattle.defs_match.specs.Rows.{Row}
use Rattle.node_memory.specs.Changes.{join}
use Rattle.join_parts.specs.Joins.{IsOfOne}
use Rattle.join_parts.proofs.serve.come_to_join.Goals as goal

pub returns : goal.returns
returns c x =
    subst (λ (rs : List Row). IsIn x c.add_of_one.new.out.items ↔ (IsIn x rs ⊎ IsOfOne c.args.p.now c.args.come (get (slice_cmp nat_cmp) c.args.parent.now.rows) x))
    (c.in_ok-add_all_extended.ensures ∙ ap (λ rs. rs ++ join c.args.p.now c.args.index.now c.args.rows_come.now) c.new-out.ensures.items) (c.in_ok-add_of_one.ensures x)
