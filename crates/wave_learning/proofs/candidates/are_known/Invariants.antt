use Rattle.std.proofs.Common.{◌≡◌, drop}
use Rattle.std.specs.List.{list_all}
use Rattle.wave_learning.specs.Lawful.{is_known}
use Rattle.wave_learning.proofs.candidates.are_known.Given as goal

abbrev pub invariant-symbols : goal.invariant-symbols
invariant-symbols l = list_all (is_known l.table) (drop l.symbol-index l.symbols) ≡ list_all (is_known l.table) l.symbols
