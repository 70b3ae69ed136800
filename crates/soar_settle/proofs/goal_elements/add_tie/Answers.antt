use Rattle.std.proofs.Common.{rules, arith, not, length, ◌<◌, ◌^◌}
use Rattle.soar_settle.proofs.FilterLemmas.{filter_shorter}
use Rattle.soar_settle.proofs.goal_elements.add_tie.Goals as goal

pub add_count-requires-2 : goal.add_count-requires-2
add_count-requires-2 c =
    let items = c.args.items.now in
    let few : length items < 2 ^ 63 = search rules in
    omega (arith, few, c.count_without_number.ensures, filter_shorter (λ item. not item.numeric) items)
