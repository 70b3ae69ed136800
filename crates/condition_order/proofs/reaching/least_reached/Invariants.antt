use Rattle.std.proofs.Common.{◌≡◌, drop, None}
use Rattle.condition_order.specs.Orders.{AreElementsKnown}
use Rattle.condition_order.specs.Reaching.{IsReachedKnown, least_reached}
use Rattle.condition_order.proofs.reaching.least_reached.Given as goal

abbrev pub invariant-grounds : goal.invariant-grounds
invariant-grounds l = record {
  known : AreElementsKnown l.table (drop l.element-index l.grounds);
  least : IsReachedKnown l.table l.least;
  whole : least_reached l.table l.places l.least (drop l.element-index l.grounds) ≡ least_reached l.table l.places None l.grounds;
}
