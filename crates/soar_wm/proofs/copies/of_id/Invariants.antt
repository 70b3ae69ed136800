use Rattle.std.proofs.Common.{◌≡◌, ◌++◌, filter_map}
use Rattle.slab.specs.Slab.{get}
use Rattle.soar_wm.specs.Shelf.{at_tag, cell_of, of_place, of_symbol, place_of}
use Rattle.soar_wm.proofs.copies.of_id.Given as goal

abbrev pub invariant-ids : goal.invariant-ids
invariant-ids l =
    l.out ++ filter_map (λ e. of_symbol l.fn.id (cell_of (get l.cells) (at_tag l.tags.entries e.0.1))) l.key-iterator
    ≡ filter_map (λ e. of_symbol l.fn.id (cell_of (get l.cells) (at_tag l.tags.entries e.0.1))) (of_place (place_of l.fn.id) l.ids.entries)
