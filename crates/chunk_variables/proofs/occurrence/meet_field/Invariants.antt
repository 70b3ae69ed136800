use Rattle.std.proofs.Common.{◌≡◌, drop, flat_map}
use Rattle.defs_soar.specs.Variablized.{each_variablized_once, variablized_in_test}
use Rattle.chunk_variables.proofs.occurrence.meet_field.Given as goal

abbrev pub invariant-tests : goal.invariant-tests
invariant-tests l =
    each_variablized_once l.variables (flat_map (variablized_in_test l.general) (drop l.test-index l.field.tests))
    ≡ each_variablized_once l.initial.variables (flat_map (variablized_in_test l.general) l.field.tests)
