use Rattle.std.proofs.Common.{◌≡◌, drop, flat_map}
use Rattle.soar_rule.specs.MatchOrder.{first_unknown}
use Rattle.soar_rule.specs.Variables.{related_in_test}
use Rattle.rule_check.specs.Members.{members}
use Rattle.rule_check.specs.Parts.{known_at, missing_at}
use Rattle.rule_check.proofs.lacking.missing_at.Given as goal

abbrev pub invariant-tests : goal.invariant-tests
invariant-tests l =
    first_unknown (known_at l.part (members l.bound.marks) l.pattern) (flat_map related_in_test (drop l.test-index l.test-items))
    ≡ missing_at l.part (members l.bound.marks) l.pattern
