use Rattle.std.proofs.Common.{◌≡◌, drop, map}
use Rattle.std.specs.List.{list_any}
use Rattle.soar_rule.specs.Conditions.{condition}
use Rattle.soar_rule.specs.Equality.{condition_eq}
use Rattle.chunk_negations.proofs.taking.is_taken.Given as goal

abbrev pub invariant-taken : goal.invariant-taken
invariant-taken l = list_any (condition_eq (condition l.negation)) (map condition (drop l.other-index l.taken)) ≡ list_any (condition_eq (condition l.negation)) (map condition l.taken)
