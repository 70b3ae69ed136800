use Rattle.std.proofs.Common.{◌↔◌, ◌⊎◌, sym, subst, Option}
use Rattle.std.proofs.lemmas.Result.{on_ok_weaker}
use Rattle.defs_match.specs.Laws.{IsIn}
use Rattle.node_table.specs.declared.node.NodeKey.{NodeKey}
use Rattle.node_agenda.specs.Links.{links_by}
use Rattle.node_agenda.proofs.LinkLemmas.{nothing_more}
use Rattle.node_agenda.proofs.linking.link_key.Goals as goal

pub returns-in-None : goal.returns-in-None
returns-in-None c k = subst (λ (o : Option NodeKey). IsIn k c.args.below.now ↔ (IsIn k (links_by o c.args.turn) ⊎ IsIn k c.args.below.now)) (sym c.in-None.is) (nothing_more c.args.below.now k)

pub returns-in-Some : goal.returns-in-Some
returns-in-Some c = on_ok_weaker c.link.result (λ h k. subst (λ (o : Option NodeKey). IsIn k c.link.new.below ↔ (IsIn k (links_by o c.args.turn) ⊎ IsIn k c.args.below.now)) (sym c.in-Some.is) (h k)) c.link.ensures
