use Rattle.std.proofs.Common.{◌↔◌, ◌⊎◌, ◌∙◌, ◌++◌, inl, inr, ap, ap₂, subst, List}
use Rattle.std.specs.Ordering.{nat_cmp}
use Rattle.std.specs.Cmp.Lexicographic.{slice_cmp}
use Rattle.std.specs.BTreeMap.{get}
use Rattle.std.specs.Map.{keys_of}
use Rattle.defs_match.specs.Laws.{IsIn}
use Rattle.defs_match.specs.Rows.{Row}
use Rattle.node_memory.specs.Changes.{below, tags_of}
use Rattle.join_parts.specs.Joins.{IsOfOne}
use Rattle.join_parts.proofs.ServeLemmas.{goes_from}
use Rattle.join_parts.proofs.serve.go_from_join.Goals as goal

pub returns-clause-goes : goal.returns-clause-goes
returns-clause-goes c =
    let found = get (slice_cmp nat_cmp) c.args.parent.now.rows in
    goes_from c.args.p.now found (keys_of c.args.child.now.rows.entries) c.args.rows_gone.now c.add_tags.new.out.items c.args.gone c.add_of_one.new.out.items
    (λ x.
    let made = subst (λ (rs : List Row). IsIn x c.add_of_one.new.out.items ↔ (IsIn x rs ⊎ IsOfOne c.args.p.now c.args.gone found x)) c.new-lost.ensures.items (c.in_ok-add_of_one.ensures x) in
    ((λ h. elim (made.0 h) [ inl i ↦ absurd i | inr i ↦ i ]), λ h. made.1 (inr h)))
    (c.in_ok-add_tags.ensures
    ∙ ap₂ (λ ts rs. ts ++ tags_of rs) (c.in_ok-add_all_below.ensures ∙ ap (λ ts. ts ++ below (keys_of c.args.child.now.rows.entries) c.args.rows_gone.now) c.new-out.ensures.items) c.as_slice.ensures.value)
