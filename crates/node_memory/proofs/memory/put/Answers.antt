use Rattle.std.proofs.Common.{◌≡◌, ◌↔◌, ◌⊎◌, ◌∙◌, sym, ap, ap₂, subst, List, ℕ, Some, cond, is_some}
use Rattle.std.specs.Ordering.{nat_cmp, is_eq}
use Rattle.std.specs.Cmp.Lexicographic.{slice_cmp}
use Rattle.std.specs.BTreeMap.{get}
use Rattle.defs_match.specs.Laws.{IsIn}
use Rattle.defs_match.specs.Rows.{Row}
use Rattle.node_memory.specs.declared.symbols.Joined.{Joined}
use Rattle.node_memory.specs.Memories.{keys_for}
use Rattle.node_memory.proofs.MemoryLemmas.{put_has, put_indexed, put_fresh, put_again, alone_fresh}
use Rattle.node_memory.proofs.memory.put.Goals as goal

pub returns-then-contains_key-clause-found : goal.returns-then-contains_key-clause-found
returns-then-contains_key-clause-found c = put_again (get (slice_cmp nat_cmp) c.args.memory.now.rows) c.args.row.now
    (ap (λ (t : List ℕ). is_some (get (slice_cmp nat_cmp) c.args.memory.now.rows t)) (sym (c.in_ok-tags.ensures ∙ c.tags.ensures)) ∙ sym c.if-contains_key.ensures)

pub returns-clause-found : goal.returns-clause-found
returns-clause-found c =
    let same : record { tags = c.in_ok-tags.tags; bindings = c.in_ok-bindings.bindings } ≡ c.args.row.now =
    ap₂ (λ t bs. let r : Row = record { tags = t; bindings = bs } in r) (c.in_ok-tags.ensures ∙ c.tags.ensures) (c.in_ok-bindings.ensures ∙ c.bindings.ensures) in
    put_fresh (get (slice_cmp nat_cmp) c.args.memory.now.rows) (get (slice_cmp nat_cmp) c.insert.new.self) c.args.row.now
    (ap (λ (t : List ℕ). is_some (get (slice_cmp nat_cmp) c.args.memory.now.rows t)) (sym (c.in_ok-tags.ensures ∙ c.tags.ensures)) ∙ sym c.if-contains_key.ensures)
    (subst (λ (r : Row). (q : List ℕ) → get (slice_cmp nat_cmp) c.insert.new.self q ≡ cond (is_eq (slice_cmp nat_cmp r.tags q)) (Some r.bindings) (get (slice_cmp nat_cmp) c.args.memory.now.rows q)) same c.in_ok-insert.ensures.updates.0)

pub returns-clause-indexed : goal.returns-clause-indexed
returns-clause-indexed c =
    let same : record { tags = c.in_ok-tags.tags; bindings = c.in_ok-bindings.bindings } ≡ c.args.row.now =
    ap₂ (λ t bs. let r : Row = record { tags = t; bindings = bs } in r) (c.in_ok-tags.ensures ∙ c.tags.ensures) (c.in_ok-bindings.ensures ∙ c.bindings.ensures) in
    put_indexed c.args.memory.now.joined.items (get (slice_cmp nat_cmp) c.args.memory.now.rows) (get (slice_cmp nat_cmp) c.insert.new.self) c.args.row.now c.args.memory.now.index c.add_keys.new.index c.requires.indexed
    (put_has (get (slice_cmp nat_cmp) c.args.memory.now.rows) (get (slice_cmp nat_cmp) c.insert.new.self) c.args.row.now
    (alone_fresh (get (slice_cmp nat_cmp) c.args.memory.now.rows) c.args.row.now
    (ap (λ (t : List ℕ). is_some (get (slice_cmp nat_cmp) c.args.memory.now.rows t)) (sym (c.in_ok-tags.ensures ∙ c.tags.ensures)) ∙ sym c.if-contains_key.ensures))
    (subst (λ (r : Row). (q : List ℕ) → get (slice_cmp nat_cmp) c.insert.new.self q ≡ cond (is_eq (slice_cmp nat_cmp r.tags q)) (Some r.bindings) (get (slice_cmp nat_cmp) c.args.memory.now.rows q)) same c.in_ok-insert.ensures.updates.0)
    (subst (λ (r : Row). get (slice_cmp nat_cmp) c.insert.new.self r.tags ≡ Some r.bindings) same c.in_ok-insert.ensures.updates.1))
    (λ k. subst (λ (js : List Joined). IsIn k c.add_keys.new.index ↔ (IsIn k (keys_for js c.args.row.now) ⊎ IsIn k c.args.memory.now.index)) c.as_slice.ensures.value (c.in_ok-add_keys.ensures k))
