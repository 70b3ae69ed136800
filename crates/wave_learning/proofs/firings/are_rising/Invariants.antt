use Rattle.std.proofs.Common.{◌≡◌, drop}
use Rattle.wave_learning.specs.Rising.{rises_from}
use Rattle.wave_learning.proofs.firings.are_rising.Given as goal

abbrev pub invariant-numbers : goal.invariant-numbers
invariant-numbers l = rises_from l.last (drop l.number-index l.numbers) ≡ rises_from 0 l.numbers
