use Rattle.std.proofs.Common.{◌≡◌, ◌-◌, true, nat_lt, arith}
use Rattle.generator.proofs.ItemLemmas.{item_linked}
use Rattle.generator.proofs.items.add_item.Goals as goal

pub returns-in_ok-add_link : goal.returns-in_ok-add_link
returns-in_ok-add_link c =
    let more : nat_lt c.args.item (c.args.items - 1) ≡ true = grind (arith, c.if-item-items.true) in
    item_linked c.args.items c.args.item c.args.script.now c.add_kind.new.script c.add_link.new.script more c.in_ok-add_kind.ensures c.in_ok-add_link.ensures
