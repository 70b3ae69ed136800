use Rattle.std.proofs.Common.{◌≡◌, ℕ, List, drop}
use Rattle.std.specs.Ordering.{nat_cmp}
use Rattle.std.specs.Cmp.Lexicographic.{slice_cmp}
use Rattle.std.specs.BTreeMap.{get}
use Rattle.node_memory.specs.Memories.{IsIndexed, puts}
use Rattle.node_memory.proofs.memory.put_all.Given as goal

abbrev pub invariant-come : goal.invariant-come
invariant-come l =
    ((q : List ℕ) → puts (drop l.row-index l.come) (get (slice_cmp nat_cmp) l.memory.rows) q ≡ puts l.come (get (slice_cmp nat_cmp) l.initial.memory.rows) q)
    × (l.memory.joined.items ≡ l.initial.memory.joined.items)
    × IsIndexed l.memory.joined.items (get (slice_cmp nat_cmp) l.memory.rows) l.memory.index
