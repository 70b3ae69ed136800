use Rattle.std.proofs.Common.{◌∙◌, ap, filter_map}
use Rattle.std.specs.List.{list_any}
use Rattle.defs_soar.specs.Values.{is_kind}
use Rattle.soar_prefs.specs.Store.{row_at}
use Rattle.soar_prefs.proofs.KeyLemmas.{triple_total}
use Rattle.soar_prefs.proofs.RunLemmas.{front_is}
use Rattle.soar_prefs.proofs.index.has_kind.Goals as goal

pub numbers-init : goal.numbers-init
numbers-init c =
    ap (λ es. list_any (λ q. is_kind q.wish.kind c.args.kind) (filter_map (λ e. row_at c.args.rows.now.entries e.0.1) es))
    (front_is triple_total (c.args.triple.id, c.args.triple.attr, c.args.triple.value) c.into_iter-place-iterator.result c.args.index.now.triples.entries
    (c.into_iter-place-iterator.ensures.into_iter_gives ∙ c.range-place-items.ensures.between tt) c.range-place-items.ensures.ordered)
