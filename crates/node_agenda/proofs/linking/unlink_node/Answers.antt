use Rattle.std.proofs.Common.{◌↔◌, sym, subst, ap, List, Option}
use Rattle.std.specs.Option.{option_map}
use Rattle.defs_match.specs.Laws.{IsIn}
use Rattle.node_table.specs.declared.node.Node.{Node}
use Rattle.node_table.specs.Making.{seen}
use Rattle.node_agenda.specs.declared.turns.TurnKey.{TurnKey}
use Rattle.node_agenda.specs.Links.{links_of}
use Rattle.node_agenda.proofs.LinkLemmas.{nothing_less}
use Rattle.node_agenda.proofs.linking.unlink_node.Goals as goal

pub returns-in_default : goal.returns-in_default
returns-in_default c k =
    subst (λ (l : List TurnKey). IsIn k c.args.below.now ↔ (IsIn k c.args.below.now × (IsIn k l → ⊥))) (sym (ap (λ (o : Option Node). links_of (option_map seen o) c.args.n) (sym c.in_default.ensures))) (nothing_less c.args.below.now k)

pub returns : goal.returns
returns c k =
    subst (λ (l : List TurnKey). IsIn k c.unlink_heard.new.below ↔ (IsIn k c.args.below.now × (IsIn k l → ⊥))) (sym (ap (λ (o : Option Node). links_of (option_map seen o) c.args.n) (sym c.in-Some.ensures))) (c.unlink_heard.ensures k)
