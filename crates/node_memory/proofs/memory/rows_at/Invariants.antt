use Rattle.std.proofs.Common.{◌≡◌, ◌++◌, length, flat_map}
use Rattle.std.specs.Ordering.{nat_cmp}
use Rattle.std.specs.Cmp.Lexicographic.{slice_cmp}
use Rattle.std.specs.BTreeMap.{get}
use Rattle.std.specs.Vec.Iter.{into_iter_items, into_iter_len}
use Rattle.node_memory.specs.Memories.{row_found}
use Rattle.node_memory.proofs.memory.rows_at.Given as goal

abbrev pub invariant-all : goal.invariant-all
invariant-all l =
    (l.out.items ++ flat_map (λ t. row_found t (get (slice_cmp nat_cmp) l.rows t)) (into_iter_items l.tags-iterator) ≡ flat_map (λ t. row_found t (get (slice_cmp nat_cmp) l.rows t)) (into_iter_items l.initial.tags-iterator))
    × (into_iter_len l.tags-iterator ≡ length (into_iter_items l.tags-iterator))
