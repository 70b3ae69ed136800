use Rattle.std.proofs.Common.{◌∙◌, ◌++◌, ap, filter_map}
use Rattle.soar_prefs.specs.Places.{front_of, slot_cmp}
use Rattle.soar_prefs.specs.Store.{row_at}
use Rattle.soar_prefs.proofs.KeyLemmas.{slot_total}
use Rattle.soar_prefs.proofs.RunLemmas.{front_is}
use Rattle.soar_prefs.proofs.index.rows_of.Goals as goal

pub numbers-init : goal.numbers-init
numbers-init c =
    ap (λ l. l ++ filter_map (λ e. row_at c.args.rows.now.entries e.0.1) (front_of slot_cmp (c.args.id, c.args.attr) c.into_iter-place-iterator.result)) c.new-found.ensures
    ∙ ap (filter_map (λ e. row_at c.args.rows.now.entries e.0.1))
    (front_is slot_total (c.args.id, c.args.attr) c.into_iter-place-iterator.result c.args.index.now.slots.entries
    (c.into_iter-place-iterator.ensures.into_iter_gives ∙ c.range-place-items.ensures.between tt) c.range-place-items.ensures.ordered)
