use Rattle.std.proofs.Common.{◌≡◌, ◌++◌, filter_map}
use Rattle.soar_prefs.specs.Places.{front_of, of_key, slot_cmp}
use Rattle.soar_prefs.specs.Store.{row_at}
use Rattle.soar_prefs.proofs.index.rows_of.Given as goal

abbrev pub invariant-numbers : goal.invariant-numbers
invariant-numbers l = l.found ++ filter_map (λ e. row_at l.rows.entries e.0.1) (front_of slot_cmp (l.fn.id, l.fn.attr) l.place-iterator) ≡ filter_map (λ e. row_at l.rows.entries e.0.1) (of_key slot_cmp (l.fn.id, l.fn.attr) l.fn.index.slots.entries)
