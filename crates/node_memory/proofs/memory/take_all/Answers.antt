use Rattle.std.proofs.Common.{◌≡◌, ◌∙◌, subst, List, ℕ}
use Rattle.std.specs.Ordering.{nat_cmp}
use Rattle.std.specs.Cmp.Lexicographic.{slice_cmp}
use Rattle.std.specs.BTreeMap.{get}
use Rattle.node_memory.specs.Memories.{taken_at}
use Rattle.node_memory.proofs.HoldLemmas.{take_next}
use Rattle.node_memory.proofs.memory.take_all.Goals as goal

pub gone-preserved : goal.gone-preserved
gone-preserved c = (
  λ q. take_next c.args.gone.now c.gone.tags-index c.tags-item.result (get (slice_cmp nat_cmp) c.gone.memory.rows) (get (slice_cmp nat_cmp) c.take.new.memory.rows) c.gone-test.true c.tags-item.is
      (subst (λ (t : List ℕ). (q : List ℕ) → get (slice_cmp nat_cmp) c.take.new.memory.rows q ≡ taken_at t (get (slice_cmp nat_cmp) c.gone.memory.rows) q) (c.in_ok-tags.ensures ∙ c.as_slice.ensures) c.take.ensures.found) q
      ∙ c.gone.invariant.0 q,
  c.take.ensures.joined ∙ c.gone.invariant.1,
  c.take.ensures.indexed,
)
