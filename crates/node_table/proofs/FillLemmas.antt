-- A new node holds what its step makes of the rows that it reads.
use Rattle.std.proofs.Common.{◌≡◌, inl, inr, refl, subst, ℕ, List, Option, Some}
use Rattle.defs_match.specs.Rows.{Row}
use Rattle.soar_rule.specs.declared.cond.Pattern.{Pattern}
use Rattle.soar_wm.specs.declared.element.Element.{Element}
use Rattle.node_memory.specs.declared.memory.Memory.{Memory}
use Rattle.node_memory.specs.Changes.{join, OneEach}
use Rattle.node_memory.specs.Held.{Holds, SameElements}
use Rattle.negation_parts.specs.Negations.{kept}
use Rattle.node_table.specs.declared.node.Step.TheVariants.{Join, Negation}
use Rattle.node_table.specs.declared.node.NodeKey.{NodeKey}
use Rattle.node_table.specs.declared.node.Node.{Node}
use Rattle.node_table.specs.Serving.{found}
use Rattle.node_table.specs.Making.{IsFilled}
use Rattle.node_table.proofs.ServingLemmas.{key_by, key_is}

module _ (nodes : ℕ → Option Node) (key : NodeKey) (index : List Element) (parent : Memory) (p0 : Node) (above : nodes key.parent ≡ Some p0) (same_memory : p0.memory ≡ parent) (m : Memory) where
  pub fills_join : (p : Pattern) → key.step ≡ Join p → ((rows : List Row) (w : List Element) → Holds (found parent) rows → SameElements index w → OneEach (join p w rows) → Holds (found m) (join p w rows)) → IsFilled nodes key index m
  fills_join p is told = subst (λ (k : NodeKey). IsFilled nodes k index m) (key_is key (Join p) is) by
    where
      by : IsFilled nodes (key_by key (Join p)) index m
      by up w reads same one = told (up key.parent) w (subst (λ (x : Memory). Holds (found x) (up key.parent)) same_memory (reads key.parent (inl refl) p0 above)) same one

  pub fills_negation : (i : ℕ) (inner : Node) → nodes i ≡ Some inner → key.step ≡ Negation i
      → ((rows inside : List Row) → Holds (found parent) rows → Holds (found inner.memory) inside → OneEach (kept inside rows) → Holds (found m) (kept inside rows)) → IsFilled nodes key index m
  fills_negation i inner at is told = subst (λ (k : NodeKey). IsFilled nodes k index m) (key_is key (Negation i) is) by
    where
      by : IsFilled nodes (key_by key (Negation i)) index m
      by up w reads same one =
          told (up key.parent) (up i) (subst (λ (x : Memory). Holds (found x) (up key.parent)) same_memory (reads key.parent (inl refl) p0 above)) (reads i (inr (inl refl)) inner at) one
