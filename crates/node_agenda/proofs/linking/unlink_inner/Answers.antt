use Rattle.std.proofs.Common.{◌↔◌, sym, subst, map}
use Rattle.defs_match.specs.Laws.{IsIn}
use Rattle.node_table.specs.declared.node.Step.{Step}
use Rattle.node_table.specs.Nodes.{inner_of}
use Rattle.node_agenda.specs.Turns.{under}
use Rattle.node_agenda.proofs.LinkLemmas.{nothing_less, one_less}
use Rattle.node_agenda.proofs.linking.unlink_inner.Goals as goal

pub returns-in-Join : goal.returns-in-Join
returns-in-Join c k = subst (λ (s : Step). IsIn k c.args.below.now ↔ (IsIn k c.args.below.now × (IsIn k (map (λ m. under m c.args.turn) (inner_of s)) → ⊥))) (sym c.in-Join.is) (nothing_less c.args.below.now k)

pub returns-in-Negation : goal.returns-in-Negation
returns-in-Negation c k =
    subst (λ (s : Step). IsIn k c.remove.new.self ↔ (IsIn k c.args.below.now × (IsIn k (map (λ m. under m c.args.turn) (inner_of s)) → ⊥))) (sym c.in-Negation.is)
    (one_less (under c.in-Negation.m c.args.turn) c.args.below.now c.remove.new.self k (c.remove.ensures k))
