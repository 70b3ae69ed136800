use Rattle.std.proofs.Common.{◌≡◌, ℕ, List, drop}
use Rattle.std.specs.Ordering.{nat_cmp}
use Rattle.std.specs.Cmp.Lexicographic.{slice_cmp}
use Rattle.std.specs.BTreeMap.{get}
use Rattle.node_memory.specs.Memories.{IsIndexed, takens}
use Rattle.node_memory.proofs.memory.take_all.Given as goal

abbrev pub invariant-gone : goal.invariant-gone
invariant-gone l =
    ((q : List ℕ) → takens (drop l.tags-index l.gone) (get (slice_cmp nat_cmp) l.memory.rows) q ≡ takens l.gone (get (slice_cmp nat_cmp) l.initial.memory.rows) q)
    × (l.memory.joined.items ≡ l.initial.memory.joined.items)
    × IsIndexed l.memory.joined.items (get (slice_cmp nat_cmp) l.memory.rows) l.memory.index
