use Rattle.std.proofs.Common.{◌↔◌, ◌⊎◌, sym, subst, Option}
use Rattle.std.proofs.lemmas.Result.{on_ok_weaker}
use Rattle.defs_match.specs.Laws.{IsIn}
use Rattle.node_table.specs.declared.node.NodeKey.{NodeKey}
use Rattle.node_table.specs.Asked.{asker_by}
use Rattle.node_agenda.specs.Links.{takers_by}
use Rattle.node_agenda.proofs.LinkLemmas.{nothing_more}
use Rattle.node_agenda.proofs.linking.note_key.Goals as goal

pub returns-in-None : goal.returns-in-None
returns-in-None c k = subst (λ (o : Option NodeKey). IsIn k c.args.takers.now ↔ (IsIn k (takers_by (asker_by c.args.number o) c.args.turn) ⊎ IsIn k c.args.takers.now)) (sym c.in-None.is) (nothing_more c.args.takers.now k)

pub returns-in-Some : goal.returns-in-Some
returns-in-Some c = on_ok_weaker c.note_step.result (λ h k. subst (λ (o : Option NodeKey). IsIn k c.note_step.new.takers ↔ (IsIn k (takers_by (asker_by c.args.number o) c.args.turn) ⊎ IsIn k c.args.takers.now)) (sym c.in-Some.is) (h k)) c.note_step.ensures
