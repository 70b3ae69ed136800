use Rattle.std.proofs.Common.{◌≡◌, flat_map, take}
use Rattle.wave_entries.specs.Entries.{entry_seen}
use Rattle.wave_learning.specs.Found.{number_in}
use Rattle.wave_learning.proofs.firings.numbers_of.Given as goal

abbrev pub invariant-entries : goal.invariant-entries
invariant-entries l = l.numbers ≡ flat_map (λ e. number_in (entry_seen e)) (take l.entry-index l.entries)
