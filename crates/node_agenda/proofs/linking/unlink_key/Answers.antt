use Rattle.std.proofs.Common.{◌↔◌, sym, subst, Option}
use Rattle.defs_match.specs.Laws.{IsIn}
use Rattle.node_table.specs.declared.node.NodeKey.{NodeKey}
use Rattle.node_agenda.specs.Links.{links_by}
use Rattle.node_agenda.proofs.LinkLemmas.{nothing_less}
use Rattle.node_agenda.proofs.linking.unlink_key.Goals as goal

pub returns-in-None : goal.returns-in-None
returns-in-None c k = subst (λ (o : Option NodeKey). IsIn k c.args.below.now ↔ (IsIn k c.args.below.now × (IsIn k (links_by o c.args.turn) → ⊥))) (sym c.in-None.is) (nothing_less c.args.below.now k)

pub returns-in-Some : goal.returns-in-Some
returns-in-Some c k = subst (λ (o : Option NodeKey). IsIn k c.unlink.new.below ↔ (IsIn k c.args.below.now × (IsIn k (links_by o c.args.turn) → ⊥))) (sym c.in-Some.is) (c.unlink.ensures k)
