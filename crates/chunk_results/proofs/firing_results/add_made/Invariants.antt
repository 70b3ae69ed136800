use Rattle.std.proofs.Common.{◌≡◌, ◌++◌, map, take}
use Rattle.defs_soar.specs.History.{firing_seen}
use Rattle.defs_soar.specs.Results.{result_row}
use Rattle.chunk_results.proofs.firing_results.add_made.Given as goal

abbrev pub invariant-made : goal.invariant-made
invariant-made l = l.rows ≡ l.initial.rows ++ map (result_row (firing_seen l.firing)) (take l.wish-index l.firing.made)
