use Rattle.std.proofs.Common.{◌≡◌, drop}
use Rattle.defs_soar.specs.Explanation.{with_numbers}
use Rattle.chunk_back.proofs.walk.add_numbers.Given as goal

abbrev pub invariant-numbers : goal.invariant-numbers
invariant-numbers l = l.waiting ≡ with_numbers (drop l.at l.numbers) l.initial.waiting
