use Rattle.std.proofs.Common.{◌↔◌, sym, subst, ap, List, Option}
use Rattle.std.specs.Option.{option_map}
use Rattle.defs_match.specs.Laws.{IsIn}
use Rattle.node_table.specs.declared.node.Node.{Node}
use Rattle.node_table.specs.Making.{seen}
use Rattle.node_agenda.specs.declared.turns.TurnKey.{TurnKey}
use Rattle.node_agenda.specs.Links.{takers_of}
use Rattle.node_agenda.proofs.LinkLemmas.{nothing_less}
use Rattle.node_agenda.proofs.linking.forget_taker.Goals as goal

pub returns-in_default : goal.returns-in_default
returns-in_default c k =
    subst (λ (l : List TurnKey). IsIn k c.args.takers.now ↔ (IsIn k c.args.takers.now × (IsIn k l → ⊥))) (sym (ap (λ (o : Option Node). takers_of (option_map seen o) c.args.n) (sym c.in_default.ensures))) (nothing_less c.args.takers.now k)

pub returns : goal.returns
returns c k =
    subst (λ (l : List TurnKey). IsIn k c.forget_heard.new.takers ↔ (IsIn k c.args.takers.now × (IsIn k l → ⊥))) (sym (ap (λ (o : Option Node). takers_of (option_map seen o) c.args.n) (sym c.in-Some.ensures))) (c.forget_heard.ensures k)
