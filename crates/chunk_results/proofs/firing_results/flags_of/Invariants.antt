use Rattle.std.proofs.Common.{◌≡◌, map, take}
use Rattle.chunk_results.specs.Told.{goes_as_told}
use Rattle.chunk_results.proofs.firing_results.flags_of.Given as goal

abbrev pub invariant-made : goal.invariant-made
invariant-made g l = l.flags ≡ map (goes_as_told (g.L.Leveled.told l.before.levels.now) l.before.firing.now.depth l.held) (take l.wish-index l.before.firing.now.made)
