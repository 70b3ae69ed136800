use Rattle.std.proofs.Common.{◌↔◌, sym, subst, List}
use Rattle.defs_match.specs.Laws.{IsIn}
use Rattle.defs_match.specs.Rows.{Row}
use Rattle.node_memory.specs.Changes.{join, OneEach}
use Rattle.node_table.proofs.filling.fill_join.Goals as goal

pub returns-clause-holds : goal.returns-clause-holds
returns-clause-holds c rows w holds same one x =
    let told = c.in_ok-rows.ensures rows w holds same in
    let alike = subst (λ (l : List Row). (y : Row) → IsIn y l ↔ IsIn y (join c.args.p.now w rows)) (sym c.as_slice.ensures.value) told in
    let each : OneEach c.as_slice.result.now = (λ a b i k. one a b ((alike a).0 i) ((alike b).0 k)) in
    let held = c.in_ok-memory.ensures.holds each x in
    ((λ h. (alike x).0 (held.0 h)), λ i. held.1 ((alike x).1 i))
