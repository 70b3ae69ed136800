use Rattle.std.proofs.Common.{◌≡◌, ◌++◌, filter, map, is_some}
use Rattle.level_change.specs.Links.{front_of, links_from, end_of}
use Rattle.level_change.proofs.links.add_late.Given as goal

abbrev pub invariant-places : goal.invariant-places
invariant-places l =
    l.found ++ map end_of (filter (λ e. is_some e.1) (front_of l.id l.place-iterator))
    ≡ l.initial.found ++ map end_of (filter (λ e. is_some e.1) (links_from l.id l.late.entries))
