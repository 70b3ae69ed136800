use Rattle.std.proofs.Common.{ap, sym, subst, refl, ◌∙◌, Option, IsSome}
use Rattle.std.proofs.lemmas.Option.{same_Some}
use Rattle.std.proofs.lemmas.Result.{on_ok_weaker}
use Rattle.slab.proofs.SlabLemmas.{Updates-with_value}
use Rattle.node_table.specs.declared.node.Node.{Node}
use Rattle.node_table.specs.Serving.{IsServed}
use Rattle.node_table.proofs.serving.take_change_at.Goals as goal

pub returns-in-Some-clause-takes : goal.returns-in-Some-clause-takes
returns-in-Some-clause-takes c =
    on_ok_weaker c.take_change.result (λ served was is. (
      c.take_change.new.node,
      (Updates-with_value c.args.nodes.now c.args.n c.take_change.new.node (subst (λ (o : Option Node). IsSome o) c.in-Some.ensures.value refl)).changed,
      subst (λ (m : Node). IsServed m c.take_change.new.node c.args.stamp c.args.come.items c.args.gone.items) (same_Some c.in-Some.node.now was (c.in-Some.ensures.value ∙ is)) served,
    )) c.take_change.ensures.served

pub returns-in-Some-clause-hears : goal.returns-in-Some-clause-hears
returns-in-Some-clause-hears c =
    on_ok_weaker c.take_change.result (λ hears now is.
    let own = (Updates-with_value c.args.nodes.now c.args.n c.take_change.new.node (subst (λ (o : Option Node). IsSome o) c.in-Some.ensures.value refl)).changed in
    ap (λ (m : Node). m.hears) (sym (same_Some c.take_change.new.node now (sym own ∙ is))) ∙ hears) c.take_change.ensures.hears
