use Rattle.std.proofs.Common.{◌↔◌, sym, subst, List}
use Rattle.std.specs.Ordering.{nat_cmp}
use Rattle.std.specs.Cmp.Lexicographic.{slice_cmp}
use Rattle.std.specs.BTreeMap.{get}
use Rattle.defs_match.specs.Laws.{IsIn}
use Rattle.defs_match.specs.Rows.{Row}
use Rattle.defs_match.specs.Testing.{Bindings}
use Rattle.node_memory.specs.declared.symbols.Joined.{Joined}
use Rattle.node_memory.specs.Memories.{keys_for}
use Rattle.node_memory.proofs.MemoryLemmas.{taken_has, taken_indexed, not_there}
use Rattle.node_memory.proofs.memory.take.Goals as goal

pub returns-in-Some-clause-indexed : goal.returns-in-Some-clause-indexed
returns-in-Some-clause-indexed c =
    let r : Row = record { tags = c.args.tags; bindings = c.in-Some.bindings } in
    taken_indexed c.args.memory.now.joined.items (get (slice_cmp nat_cmp) c.args.memory.now.rows) (get (slice_cmp nat_cmp) c.remove.new.self) r c.args.memory.now.index c.remove_keys.new.index c.requires.indexed
    (sym c.in-Some.ensures.value) (taken_has (get (slice_cmp nat_cmp) c.args.memory.now.rows) (get (slice_cmp nat_cmp) c.remove.new.self) c.args.tags c.remove.ensures.updates.0 c.remove.ensures.updates.1)
    (λ k. subst (λ (bs : Bindings). IsIn k c.remove_keys.new.index ↔ (IsIn k c.args.memory.now.index × (IsIn k (keys_for c.args.memory.now.joined.items (record { tags = c.args.tags; bindings = bs })) → ⊥))) c.as_slice-in-Some.ensures
    (subst (λ (js : List Joined). IsIn k c.remove_keys.new.index ↔ (IsIn k c.args.memory.now.index × (IsIn k (keys_for js (record { tags = c.args.tags; bindings = c.as_slice-in-Some.result.now })) → ⊥))) c.as_slice.ensures.value (c.remove_keys.ensures k)))

pub returns-in_default-clause-indexed : goal.returns-in_default-clause-indexed
returns-in_default-clause-indexed c = not_there c.args.memory.now.joined.items (get (slice_cmp nat_cmp) c.args.memory.now.rows) (get (slice_cmp nat_cmp) c.remove.new.self) c.args.tags c.args.memory.now.index c.requires.indexed (sym c.in_default.ensures.value) (taken_has (get (slice_cmp nat_cmp) c.args.memory.now.rows) (get (slice_cmp nat_cmp) c.remove.new.self) c.args.tags c.remove.ensures.updates.0 c.remove.ensures.updates.1)
