use Rattle.std.proofs.Common.{◌≡◌, drop, filter}
use Rattle.defs_soar.specs.History.{firing_seen}
use Rattle.defs_soar.specs.Results.{with_each_symbol}
use Rattle.chunk_results.specs.Held.{AreSame}
use Rattle.chunk_results.specs.Told.{hangs_as_told}
use Rattle.chunk_results.proofs.hanging.add_each.Given as goal

abbrev pub invariant-symbols : goal.invariant-symbols
invariant-symbols g l = record {
  same : AreSame l.held.set l.held.order;
  order : with_each_symbol l.held.order (filter (hangs_as_told (g.L.Leveled.told l.before.levels.now) l.before.goals.now (firing_seen l.before.firing.now)) (drop l.symbol-index l.symbols)) ≡ with_each_symbol l.initial.held.order (filter (hangs_as_told (g.L.Leveled.told l.before.levels.now) l.before.goals.now (firing_seen l.before.firing.now)) l.symbols);
}
