use Rattle.std.proofs.Common.{◌≡◌, map, take}
use Rattle.match_changes.specs.Told.{key_of}
use Rattle.live_firings.proofs.reading.went.Given as goal

abbrev pub invariant-gone : goal.invariant-gone
invariant-gone l = l.went ≡ map (λ g. key_of g.1.instance) (take l.firing-index l.gone)
