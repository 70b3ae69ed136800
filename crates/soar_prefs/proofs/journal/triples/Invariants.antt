use Rattle.std.proofs.Common.{◌≡◌, map, take}
use Rattle.soar_prefs.specs.Store.{plain, row_of}
use Rattle.soar_prefs.proofs.journal.triples.Given as goal

abbrev pub invariant-events : goal.invariant-events
invariant-events l = l.triples ≡ map (λ event. plain (row_of event)) (take l.event-index l.events)
