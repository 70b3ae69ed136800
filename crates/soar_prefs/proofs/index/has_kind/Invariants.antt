use Rattle.std.proofs.Common.{◌≡◌, filter_map}
use Rattle.std.specs.List.{list_any}
use Rattle.defs_soar.specs.Values.{is_kind}
use Rattle.soar_prefs.specs.Places.{front_of, of_key, triple_cmp}
use Rattle.soar_prefs.specs.Store.{row_at}
use Rattle.soar_prefs.proofs.index.has_kind.Given as goal

abbrev pub invariant-numbers : goal.invariant-numbers
invariant-numbers l =
    list_any (λ q. is_kind q.wish.kind l.kind) (filter_map (λ e. row_at l.rows.entries e.0.1) (front_of triple_cmp (l.fn.triple.id, l.fn.triple.attr, l.fn.triple.value) l.place-iterator))
    ≡ list_any (λ q. is_kind q.wish.kind l.kind) (filter_map (λ e. row_at l.rows.entries e.0.1) (of_key triple_cmp (l.fn.triple.id, l.fn.triple.attr, l.fn.triple.value) l.fn.index.triples.entries))
