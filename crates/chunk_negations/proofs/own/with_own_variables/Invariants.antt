use Rattle.std.proofs.Common.{◌≡◌, ◌++◌, drop, map}
use Rattle.soar_rule.specs.Conditions.{condition}
use Rattle.defs_soar.specs.Negations.{with_own_variables}
use Rattle.chunk_negations.proofs.own.with_own_variables.Given as goal

abbrev pub invariant-negations : goal.invariant-negations
invariant-negations l =
    map condition l.others ++ with_own_variables l.first (map condition (drop l.negation-index l.negations)) ≡ with_own_variables 0 (map condition l.negations)
