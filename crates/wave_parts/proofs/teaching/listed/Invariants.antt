use Rattle.std.proofs.Common.{◌≡◌, ◌++◌}
use Rattle.wave_parts.proofs.teaching.listed.Given as goal

abbrev pub invariant-numbers : goal.invariant-numbers
invariant-numbers l = l.numbers ++ l.number-iterator ≡ l.fn.found.keys
