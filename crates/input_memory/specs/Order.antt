-- The order of places: by identifier, attribute, value, mark. No public clause cites this.
use Rattle.std.specs.Cmp.{IsTotalOrder, bool_cmp_total, int_cmp_total, nat_cmp_total, on_total, then_total}
use Rattle.std.specs.Ordering.{bool_cmp, int_cmp, nat_cmp, ordering_then}
use Rattle.std.specs.declared.cmp.Ordering.{Ordering}
use Rattle.input_memory.specs.declared.place.Place.{Place}

abbrev pub id_cmp : Place → Place → Ordering
id_cmp p q = ordering_then (int_cmp p.id q.id) (nat_cmp p.id_kind q.id_kind)

abbrev pub attr_cmp : Place → Place → Ordering
attr_cmp p q = ordering_then (nat_cmp p.attr_kind q.attr_kind) (int_cmp p.attr q.attr)

abbrev pub value_cmp : Place → Place → Ordering
value_cmp p q = ordering_then (ordering_then (int_cmp p.value q.value) (nat_cmp p.value_kind q.value_kind)) (bool_cmp p.accept q.accept)

-- how places of one identifier compare
abbrev pub rest_cmp : Place → Place → Ordering
rest_cmp p q = ordering_then (attr_cmp p q) (value_cmp p q)

abbrev pub place_cmp : Place → Place → Ordering
place_cmp p q = ordering_then (id_cmp p q) (rest_cmp p q)

id_total : IsTotalOrder id_cmp
id_total = then_total (on_total (λ p. p.id) int_cmp_total) (on_total (λ p. p.id_kind) nat_cmp_total)

attr_total : IsTotalOrder attr_cmp
attr_total = then_total (on_total (λ p. p.attr_kind) nat_cmp_total) (on_total (λ p. p.attr) int_cmp_total)

value_total : IsTotalOrder value_cmp
value_total = then_total (then_total (on_total (λ p. p.value) int_cmp_total) (on_total (λ p. p.value_kind) nat_cmp_total)) (on_total (λ p. p.accept) bool_cmp_total)

pub place_total : IsTotalOrder place_cmp
place_total = then_total id_total (then_total attr_total value_total)
