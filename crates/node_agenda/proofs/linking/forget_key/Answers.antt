use Rattle.std.proofs.Common.{◌↔◌, sym, subst, Option}
use Rattle.defs_match.specs.Laws.{IsIn}
use Rattle.node_table.specs.declared.node.NodeKey.{NodeKey}
use Rattle.node_table.specs.Asked.{asker_by}
use Rattle.node_agenda.specs.Links.{takers_by}
use Rattle.node_agenda.proofs.LinkLemmas.{nothing_less}
use Rattle.node_agenda.proofs.linking.forget_key.Goals as goal

pub returns-in-None : goal.returns-in-None
returns-in-None c k = subst (λ (o : Option NodeKey). IsIn k c.args.takers.now ↔ (IsIn k c.args.takers.now × (IsIn k (takers_by (asker_by c.args.number o) c.args.turn) → ⊥))) (sym c.in-None.is) (nothing_less c.args.takers.now k)

pub returns-in-Some : goal.returns-in-Some
returns-in-Some c k = subst (λ (o : Option NodeKey). IsIn k c.forget_step.new.takers ↔ (IsIn k c.args.takers.now × (IsIn k (takers_by (asker_by c.args.number o) c.args.turn) → ⊥))) (sym c.in-Some.is) (c.forget_step.ensures k)
