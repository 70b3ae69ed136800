use Rattle.std.proofs.Common.{◌↔◌, sym, subst}
use Rattle.defs_match.specs.Laws.{IsIn}
use Rattle.node_table.specs.declared.node.Step.{Step}
use Rattle.node_table.specs.Asked.{asker_of}
use Rattle.node_agenda.specs.Turns.{under}
use Rattle.node_agenda.specs.Links.{takers_by}
use Rattle.node_agenda.proofs.LinkLemmas.{nothing_less, one_less}
use Rattle.node_agenda.proofs.linking.forget_step.Goals as goal

pub returns-in-Negation : goal.returns-in-Negation
returns-in-Negation c k = subst (λ (s : Step). IsIn k c.args.takers.now ↔ (IsIn k c.args.takers.now × (IsIn k (takers_by (asker_of c.args.number s) c.args.turn) → ⊥))) (sym c.in-Negation.is) (nothing_less c.args.takers.now k)

pub returns-in-Join : goal.returns-in-Join
returns-in-Join c k =
    subst (λ (s : Step). IsIn k c.remove.new.self ↔ (IsIn k c.args.takers.now × (IsIn k (takers_by (asker_of c.args.number s) c.args.turn) → ⊥))) (sym c.in-Join.is)
    (one_less (under c.args.number c.args.turn) c.args.takers.now c.remove.new.self k (c.remove.ensures k))
