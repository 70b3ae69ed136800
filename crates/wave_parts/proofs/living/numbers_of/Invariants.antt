use Rattle.std.proofs.Common.{◌≡◌, map, take}
use Rattle.defs_soar.specs.Trimming.{numbers_of}
use Rattle.live_firings.specs.Living.{live_seen}
use Rattle.wave_parts.proofs.living.numbers_of.Given as goal

abbrev pub invariant-firings : goal.invariant-firings
invariant-firings l = l.numbers ≡ numbers_of (map live_seen (take l.firing-index l.firings))
