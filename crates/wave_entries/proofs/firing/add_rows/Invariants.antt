use Rattle.std.proofs.Common.{◌≡◌, ◌++◌, take, flat_map}
use Rattle.wave_entries.specs.Left.{row_held}
use Rattle.wave_entries.proofs.firing.add_rows.Given as goal

abbrev pub invariant-wishes : goal.invariant-wishes
invariant-wishes l = l.rows ≡ l.initial.rows ++ flat_map (row_held l.number) (take l.held-index l.wishes)
