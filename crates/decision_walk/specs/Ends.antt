-- How a walk ends, as the definition says it.
use Rattle.std.specs.Prelude.{Some}
use Rattle.defs_soar.specs.Walk.{Decided, meets, selects_operator}
use Rattle.decision_walk.specs.declared.decided.Decided.{Decided as DecidedKept}
use Rattle.decision_walk.specs.declared.decided.Decided.TheVariants as decided

abbrev pub decided_seen : DecidedKept → Decided
decided_seen (decided.Selects operator takes) = selects_operator (Some operator) takes
decided_seen (decided.Meets why items) = meets why items
