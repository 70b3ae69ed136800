use Rattle.std.proofs.Common.{◌≡◌, drop, map}
use Rattle.wave_entries.specs.Entries.{entry_seen}
use Rattle.wave_learning.specs.Found.{first_firing}
use Rattle.wave_learning.proofs.firings.first_firing.Given as goal

abbrev pub invariant-entries : goal.invariant-entries
invariant-entries l = first_firing l.number (map entry_seen (drop l.entry-index l.entries)) ≡ first_firing l.number (map entry_seen l.entries)
