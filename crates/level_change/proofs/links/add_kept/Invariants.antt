use Rattle.std.proofs.Common.{◌≡◌, ◌++◌, not, filter, map}
use Rattle.level_change.specs.Links.{front_of, links_from, came_later, end_of}
use Rattle.level_change.proofs.links.add_kept.Given as goal

abbrev pub invariant-places : goal.invariant-places
invariant-places l =
    l.found ++ map end_of (filter (λ e. not (came_later l.late.entries l.id e.0.1)) (front_of l.id l.place-iterator))
    ≡ l.initial.found ++ map end_of (filter (λ e. not (came_later l.late.entries l.id e.0.1)) (links_from l.id l.base.entries))
