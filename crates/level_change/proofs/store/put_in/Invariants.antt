use Rattle.std.proofs.Common.{◌≡◌}
use Rattle.std.specs.List.Sorted.{IsStrictlySortedBy}
use Rattle.std.specs.Map.{keys_of}
use Rattle.level_change.specs.Links.{Place, place_cmp, value_in}
use Rattle.level_change.proofs.HoldLemmas.{IsRest}
use Rattle.level_change.proofs.store.put_in.Given as goal

abbrev pub invariant-late : goal.invariant-late
invariant-late l =
    ((q : Place) → value_in l.base.entries l.place-iterator q ≡ value_in l.initial.base.entries l.late.entries q)
    × IsStrictlySortedBy place_cmp (keys_of l.place-iterator)
    × IsRest l.late.entries l.place-iterator
