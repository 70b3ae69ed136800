use Rattle.std.proofs.Common.{◌≢◌, ◌↔◌, ◌∙◌, subst, get_or, List, ℕ, None}
use Rattle.defs_match.specs.Laws.{IsIn}
use Rattle.node_memory.specs.Memories.{key_for}
use Rattle.node_memory.proofs.MemoryLemmas.{removed_step, removed_all}
use Rattle.node_memory.proofs.memory.remove_keys.Goals as goal

pub all-preserved : goal.all-preserved
all-preserved c = (
  c.remove_key-tags.ensures.tags ∙ c.all.invariant.0,
  λ k. removed_step c.args.all.now (record { tags = c.args.tags; bindings = c.args.bindings.now }) c.all.joined-index _ c.all.index c.remove_key-tags.new.index c.args.index.now k c.all-test.true (c.all.invariant.1 k)
      (subst (λ (t : List ℕ). IsIn k c.remove_key-tags.new.index ↔ (IsIn k c.all.index × (key_for (get_or c.args.all.now c.all.joined-index (record { id = None; value = None })) (record { tags = t; bindings = c.args.bindings.now }) ≢ k))) c.all.invariant.0
      (c.remove_key-tags.ensures.index k)),
)

pub returns : goal.returns
returns c k =
    removed_all c.args.all.now (record { tags = c.args.tags; bindings = c.args.bindings.now }) c.all.joined-index c.all.index c.args.index.now k c.all-test.false (c.all.invariant.1 k)
