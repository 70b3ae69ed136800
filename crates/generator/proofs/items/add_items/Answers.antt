use Rattle.std.proofs.Common.{◌∙◌, ◌+◌, ◌-◌, ◌++◌, append_assoc, ap, sym}
use Rattle.defs_run.specs.CommandLine.{item_text, items_text}
use Rattle.generator.proofs.ItemLemmas.{items_step}
use Rattle.generator.proofs.items.add_items.Goals as goal

pub items-preserved : goal.items-preserved
items-preserved c =
    let n = c.args.items in
    let k = c.items.item in
    let rest = items_text n (k + 1) (n - (k + 1)) in
    ap (λ x. x ++ rest) c.in_ok-add_item.ensures ∙ append_assoc c.items.script (item_text n k) rest ∙ ap (λ x. c.items.script ++ x) (sym (items_step n k c.items-test.true)) ∙ c.items.invariant
