use Rattle.std.proofs.Common.{sym, ap, ◌∙◌}
use Rattle.std.proofs.lemmas.Option.{same_Some}
use Rattle.node_table.specs.declared.node.Node.{Node}
use Rattle.node_table.proofs.making.new_node.Goals as goal

pub fill-requires-clause-parent : goal.fill-requires-clause-parent
fill-requires-clause-parent c node at = ap (λ (m : Node). m.memory) (same_Some node c.in-Some.parent.now (sym at ∙ sym c.in-Some.ensures))
