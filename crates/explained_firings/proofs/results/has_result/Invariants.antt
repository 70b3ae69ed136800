use Rattle.std.proofs.Common.{◌≡◌, drop}
use Rattle.std.specs.List.{list_any}
use Rattle.defs_soar.specs.Results.{is_result}
use Rattle.firing_records.specs.Recorded.{reach_of, standing}
use Rattle.explained_firings.proofs.results.has_result.Given as goal

abbrev pub invariant-made : goal.invariant-made
invariant-made l =
    list_any (is_result (reach_of (standing l.before)) l.firing.depth) (drop l.wish-index l.firing.made) ≡ list_any (is_result (reach_of (standing l.before)) l.firing.depth) l.firing.made
