use Rattle.std.proofs.Common.{◌≡◌, map}
use Rattle.wave_entries.specs.Details.{support_of}
use Rattle.wave_entries.specs.Entries.{entry_seen}
use Rattle.learned_firings.specs.Flags.{with_flags}
use Rattle.learned_firings.proofs.flags.hold_flagged.Given as goal

abbrev pub invariant-entries : goal.invariant-entries
invariant-entries l = map entry_seen l.held ≡ map (with_flags l.number l.flags (support_of l.by)) (map entry_seen l.yielded)
