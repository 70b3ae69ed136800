use Rattle.std.proofs.Common.{◌↔◌, ◌⊎◌, ◌∙◌, sym, subst, map, List}
use Rattle.std.specs.Ordering.{nat_cmp}
use Rattle.std.specs.Cmp.Lexicographic.{slice_cmp}
use Rattle.std.specs.BTreeMap.{get}
use Rattle.defs_match.specs.Laws.{IsIn}
use Rattle.defs_match.specs.Rows.{Row}
use Rattle.node_memory.specs.declared.symbols.Joined.{Joined}
use Rattle.node_memory.specs.Memories.{IsIndexed, key_for, rows_in}
use Rattle.node_memory.proofs.MemoryLemmas.{indexed_more}
use Rattle.node_memory.proofs.EntryLemmas.{finds_rows}
use Rattle.node_memory.proofs.indexing.index_by.Goals as goal

pub returns-clause-indexed : goal.returns-clause-indexed
returns-clause-indexed c =
    let found = get (slice_cmp nat_cmp) c.args.memory.now.rows in
    subst (λ (vs : List Joined). IsIndexed vs found c.add_rows_keys.new.index) (sym c.in_ok-push.ensures.items)
    (indexed_more c.args.memory.now.joined.items found c.args.memory.now.index c.add_rows_keys.new.index c.args.joined (rows_in c.args.memory.now.rows.entries) c.requires.indexed
    (finds_rows c.args.memory.now.rows.entries c.in_ok-rows.ensures.ordered)
    (λ k. subst (λ (rs : List Row). IsIn k c.add_rows_keys.new.index ↔ (IsIn k (map (key_for c.args.joined) rs) ⊎ IsIn k c.args.memory.now.index)) (c.as_slice.ensures.value ∙ c.in_ok-rows.ensures.rows) (c.in_ok-add_rows_keys.ensures k)))
