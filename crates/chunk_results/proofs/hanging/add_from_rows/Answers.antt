use Rattle.std.proofs.Common.{length}
use Rattle.std.proofs.lemmas.Result.{on_ok_weaker}
use Rattle.defs_soar.specs.History.{firing_seen}
use Rattle.level_graph.specs.Listed.{linked}
use Rattle.chunk_results.specs.Held.{leads}
use Rattle.chunk_results.specs.Told.{hangs_as_told}
use Rattle.chunk_results.proofs.WalkLemmas.{same_walk}
use Rattle.chunk_results.proofs.hanging.add_from_rows.Goals as goal

pub returns-clause-walk : goal.returns-clause-walk
returns-clause-walk g c =
    let hangs = hangs_as_told (g.L.Leveled.told c.args.before.now.levels.now) c.args.before.now.goals.now (firing_seen c.args.before.now.firing.now) in
    let new = c.add_linked.new.held.order in
    on_ok_weaker c.add_linked.result (same_walk hangs (linked c.in_ok-links.links) (leads c.args.rows.now) c.in_ok-links.ensures c.args.held.now.order new (length new)) c.add_linked.ensures.walk
