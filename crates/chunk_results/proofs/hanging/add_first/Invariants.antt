use Rattle.std.proofs.Common.{◌≡◌, drop, filter, flat_map}
use Rattle.defs_soar.specs.History.{firing_seen}
use Rattle.defs_soar.specs.Results.{named_by, with_each_symbol}
use Rattle.chunk_results.specs.Held.{AreSame}
use Rattle.chunk_results.specs.Told.{hangs_as_told, is_told_result}
use Rattle.chunk_results.proofs.hanging.add_first.Given as goal

abbrev pub invariant-wishes : goal.invariant-wishes
invariant-wishes g l = record {
  same : AreSame l.held.set l.held.order;
  order :
      with_each_symbol l.held.order (filter (hangs_as_told (g.L.Leveled.told l.before.levels.now) l.before.goals.now (firing_seen l.before.firing.now)) (flat_map named_by (filter (is_told_result (g.L.Leveled.told l.before.levels.now) l.before.firing.now.depth) (drop l.wish-index l.wishes))))
      ≡ with_each_symbol l.initial.held.order (filter (hangs_as_told (g.L.Leveled.told l.before.levels.now) l.before.goals.now (firing_seen l.before.firing.now)) (flat_map named_by (filter (is_told_result (g.L.Leveled.told l.before.levels.now) l.before.firing.now.depth) l.wishes)));
}
