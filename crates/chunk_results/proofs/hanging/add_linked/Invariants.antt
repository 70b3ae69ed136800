use Rattle.std.proofs.Common.{◌+◌, ◌*◌, ◌-◌, length, flat_map}
use Rattle.defs_soar.specs.History.{firing_seen}
use Rattle.level_graph.specs.Listed.{linked}
use Rattle.chunk_results.specs.Held.{AreSame, Walk}
use Rattle.chunk_results.specs.Told.{hangs_as_told}
use Rattle.chunk_results.proofs.EachLemmas.{unseen}
use Rattle.chunk_results.proofs.hanging.add_linked.Given as goal

abbrev pub invariant-order : goal.invariant-order
invariant-order g l = record {
  same : AreSame l.held.set l.held.order;
  walk : Walk (hangs_as_told (g.L.Leveled.told l.before.levels.now) l.before.goals.now (firing_seen l.before.firing.now)) (linked l.links) l.initial.held.order l.held.order l.at;
}

-- each round takes one identifier, and adds fewer than it takes from those that are not there
abbrev pub decreases-order : goal.decreases-order
decreases-order g l = 2 * unseen (flat_map (λ e. e.1) l.links) l.held.order + (length l.held.order - l.at)
