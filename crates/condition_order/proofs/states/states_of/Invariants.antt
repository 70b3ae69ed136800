use Rattle.std.proofs.Common.{◌≡◌, drop}
use Rattle.defs_soar.specs.ConditionOrder.{states_of}
use Rattle.condition_order.proofs.states.states_of.Given as goal

abbrev pub invariant-grounds : goal.invariant-grounds
invariant-grounds l = l.states.items ≡ states_of l.table (drop l.at l.grounds)
