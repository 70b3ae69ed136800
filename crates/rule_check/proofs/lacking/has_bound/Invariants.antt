use Rattle.std.proofs.Common.{◌≡◌, drop, flat_map}
use Rattle.std.specs.List.{list_any}
use Rattle.soar_rule.specs.Variables.{is_among, plain_in, plain_in_test}
use Rattle.rule_check.specs.Members.{members}
use Rattle.rule_check.proofs.lacking.has_bound.Given as goal

abbrev pub invariant-tests : goal.invariant-tests
invariant-tests l =
    list_any (is_among (members l.bound.marks)) (flat_map plain_in_test (drop l.test-index l.test-items))
    ≡ list_any (is_among (members l.bound.marks)) (plain_in l.field)
