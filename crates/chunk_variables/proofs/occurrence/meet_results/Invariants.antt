use Rattle.std.proofs.Common.{◌≡◌, drop, flat_map}
use Rattle.defs_soar.specs.Variablized.{each_variablized_once, variablized_in_wish}
use Rattle.chunk_variables.proofs.occurrence.meet_results.Given as goal

abbrev pub invariant-results : goal.invariant-results
invariant-results l =
    each_variablized_once l.variables (flat_map (variablized_in_wish l.general) (drop l.wish-index l.results))
    ≡ each_variablized_once l.initial.variables (flat_map (variablized_in_wish l.general) l.results)
