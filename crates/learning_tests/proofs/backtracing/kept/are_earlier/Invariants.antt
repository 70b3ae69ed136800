use Rattle.std.proofs.Common.{◌≡◌, drop, flat_map, nat_lt}
use Rattle.std.specs.List.{list_all}
use Rattle.defs_soar.specs.Explanation.{maker_named}
use Rattle.learning_tests.proofs.backtracing.kept.are_earlier.Given as goal

abbrev pub invariant-used : goal.invariant-used
invariant-used l = list_all (λ n. nat_lt n l.number) (flat_map maker_named (drop l.one-index l.used)) ≡ list_all (λ n. nat_lt n l.number) (flat_map maker_named l.used)
