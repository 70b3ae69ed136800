use Rattle.std.proofs.Common.{◌≡◌, ◌++◌, take}
use Rattle.firing_records.specs.Among.{goals_in}
use Rattle.firing_records.proofs.constants.add_symbols.Given as goal

abbrev pub invariant-symbols : goal.invariant-symbols
invariant-symbols l = l.found ≡ l.initial.found ++ goals_in l.goals (take l.symbol-index l.symbols)
