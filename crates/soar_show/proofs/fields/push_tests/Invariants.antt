use Rattle.std.proofs.Common.{◌≡◌, ◌++◌, drop, flat_map, map}
use Rattle.soar_rule.specs.Symbols.{constants_of_test}
use Rattle.defs_read.specs.PrintingConditions.{spaced}
use Rattle.soar_show.specs.Known.{Knows}
use Rattle.soar_show.specs.Lines.{placed_text}
use Rattle.soar_show.proofs.fields.push_tests.Given as goal

abbrev pub invariant-tests : goal.invariant-tests
invariant-tests l = record {
  known : Knows l.names.words (flat_map constants_of_test (drop l.test-index l.tests));
  text : l.out ++ spaced (map (placed_text l.place l.names) (drop l.test-index l.tests)) ≡ l.initial.out ++ spaced (map (placed_text l.place l.names) l.tests);
}
