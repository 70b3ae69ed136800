use Rattle.std.proofs.Common.{◌≡◌, filter, map, take}
use Rattle.defs_soar.specs.History.{firing_seen}
use Rattle.defs_soar.specs.Results.{result_row}
use Rattle.chunk_results.specs.Told.{is_told_result}
use Rattle.chunk_results.proofs.firing_results.own_rows.Given as goal

abbrev pub invariant-made : goal.invariant-made
invariant-made g l = l.own ≡ map (result_row (firing_seen l.before.firing.now)) (filter (is_told_result (g.L.Leveled.told l.before.levels.now) l.before.firing.now.depth) (take l.wish-index l.before.firing.now.made))
