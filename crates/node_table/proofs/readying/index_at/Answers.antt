use Rattle.std.proofs.Common.{subst, refl, ◌∙◌, Option, IsSome}
use Rattle.std.proofs.lemmas.Option.{same_Some}
use Rattle.std.proofs.lemmas.Result.{on_ok_weaker}
use Rattle.slab.proofs.SlabLemmas.{Updates-with_value}
use Rattle.node_table.specs.declared.node.Node.{Node}
use Rattle.node_table.specs.Making.{IsReady}
use Rattle.node_table.proofs.readying.index_at.Goals as goal

pub returns-in-Some-clause-ready : goal.returns-in-Some-clause-ready
returns-in-Some-clause-ready c =
    on_ok_weaker c.index_for.result (λ ready was is. (
      c.index_for.new.node,
      (Updates-with_value c.args.nodes.now c.args.n c.index_for.new.node (subst (λ (o : Option Node). IsSome o) c.in-Some.ensures.value refl)).changed,
      subst (λ (m : Node). IsReady m c.index_for.new.node c.args.step.now) (same_Some c.in-Some.node.now was (c.in-Some.ensures.value ∙ is)) ready,
    )) c.index_for.ensures
