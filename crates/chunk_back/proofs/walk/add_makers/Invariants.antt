use Rattle.std.proofs.Common.{◌≡◌, drop, flat_map}
use Rattle.defs_soar.specs.Explanation.{maker_named, with_numbers}
use Rattle.chunk_back.proofs.walk.add_makers.Given as goal

abbrev pub invariant-used : goal.invariant-used
invariant-used l = l.waiting ≡ with_numbers (flat_map maker_named (drop l.at l.used)) l.initial.waiting
