use Rattle.std.proofs.Common.{◌↔◌, ◌⊎◌, sym, subst, map}
use Rattle.defs_match.specs.Laws.{IsIn}
use Rattle.node_table.specs.declared.node.Step.{Step}
use Rattle.node_table.specs.Nodes.{inner_of}
use Rattle.node_agenda.specs.Turns.{under}
use Rattle.node_agenda.proofs.LinkLemmas.{nothing_more, one_more}
use Rattle.node_agenda.proofs.linking.link_inner.Goals as goal

pub returns-in-Join : goal.returns-in-Join
returns-in-Join c k = subst (λ (s : Step). IsIn k c.args.below.now ↔ (IsIn k (map (λ m. under m c.args.turn) (inner_of s)) ⊎ IsIn k c.args.below.now)) (sym c.in-Join.is) (nothing_more c.args.below.now k)

pub returns-in_ok-add-in-Negation : goal.returns-in_ok-add-in-Negation
returns-in_ok-add-in-Negation c k =
    subst (λ (s : Step). IsIn k c.add.new.self ↔ (IsIn k (map (λ m. under m c.args.turn) (inner_of s)) ⊎ IsIn k c.args.below.now)) (sym c.in-Negation.is)
    (one_more (under c.in-Negation.m c.args.turn) c.args.below.now c.add.new.self k (c.in_ok-add-in-Negation.ensures.ok k))
