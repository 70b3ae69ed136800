use Rattle.std.proofs.Common.{◌≡◌}
use Rattle.std.specs.List.{IsDistinct}
use Rattle.std.specs.Map.{keys_of}
use Rattle.level_change.specs.Links.{Place, id_eq, placed, value_in}
use Rattle.level_change.proofs.HoldLemmas.{IsRest}
use Rattle.level_change.proofs.levels.put_levels.Given as goal

abbrev pub invariant-late : goal.invariant-late
invariant-late l =
    ((q : Place) → value_in (placed l.base.entries) (placed l.id-iterator) q ≡ value_in (placed l.initial.base.entries) (placed l.late.entries) q)
    × IsDistinct id_eq (keys_of l.id-iterator)
    × IsRest (placed l.late.entries) (placed l.id-iterator)
