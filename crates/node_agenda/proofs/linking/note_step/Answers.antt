use Rattle.std.proofs.Common.{◌↔◌, ◌⊎◌, sym, subst}
use Rattle.defs_match.specs.Laws.{IsIn}
use Rattle.node_table.specs.declared.node.Step.{Step}
use Rattle.node_table.specs.Asked.{asker_of}
use Rattle.node_agenda.specs.Turns.{under}
use Rattle.node_agenda.specs.Links.{takers_by}
use Rattle.node_agenda.proofs.LinkLemmas.{nothing_more, one_more}
use Rattle.node_agenda.proofs.linking.note_step.Goals as goal

pub returns-in-Negation : goal.returns-in-Negation
returns-in-Negation c k = subst (λ (s : Step). IsIn k c.args.takers.now ↔ (IsIn k (takers_by (asker_of c.args.number s) c.args.turn) ⊎ IsIn k c.args.takers.now)) (sym c.in-Negation.is) (nothing_more c.args.takers.now k)

pub returns-in_ok-add-in-Join : goal.returns-in_ok-add-in-Join
returns-in_ok-add-in-Join c k =
    subst (λ (s : Step). IsIn k c.add.new.self ↔ (IsIn k (takers_by (asker_of c.args.number s) c.args.turn) ⊎ IsIn k c.args.takers.now)) (sym c.in-Join.is)
    (one_more (under c.args.number c.args.turn) c.args.takers.now c.add.new.self k (c.in_ok-add-in-Join.ensures.ok k))
