use Rattle.std.proofs.Common.{◌≡◌, ◌∙◌, subst, ap, ℕ, List, Option, Some, None, slice_index_or}
use Rattle.slab.specs.Slab.{get}
use Rattle.node_table.specs.declared.node.Node.{Node}
use Rattle.rete_beta.proofs.network.root_nodes.Goals as goal

pub returns : goal.returns
returns c =
    let first : c.in_ok-insert.field-0 ≡ 0 = c.in_ok-insert.ensures.key ∙ c.new-nodes.ensures.first_key in
    record {
      root = c.in_ok-root.root;
      is = c.in_ok-root.ensures;
      here = subst (λ (k : ℕ). get c.insert.new.self k ≡ Some c.in_ok-root.root) first c.in_ok-insert.ensures.updates.changed;
      others = λ k ne. c.in_ok-insert.ensures.updates.others k (λ e. ne (e ∙ first)) ∙ ap (λ (l : List (Option Node)). slice_index_or l k None) c.new-nodes.ensures.empty;
    }
