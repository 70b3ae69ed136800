use Rattle.std.proofs.Common.{◌≡◌, drop}
use Rattle.std.specs.List.{list_any}
use Rattle.defs_soar.specs.History.{firing_seen}
use Rattle.defs_soar.specs.Waves.{lasting_of}
use Rattle.kept_triples.specs.Kept.{level_in_kept}
use Rattle.goal_dependence.specs.Told.{is_told_local}
use Rattle.goal_dependence.proofs.locality.adds_locally.Given as goal

abbrev pub invariant-added : goal.invariant-added
invariant-added l =
    list_any (is_told_local (level_in_kept l.levels) l.depth (firing_seen l.firing)) (lasting_of (drop l.row-index l.added) l.firing.number)
    ≡ list_any (is_told_local (level_in_kept l.levels) l.depth (firing_seen l.firing)) (lasting_of l.added l.firing.number)
