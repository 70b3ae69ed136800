use Rattle.std.proofs.Common.{◌≡◌, drop, flat_map}
use Rattle.soar_rule.specs.Variables.{is_among, plain_in, plain_in_test}
use Rattle.rule_check.proofs.lacking.has_plain.Given as goal

abbrev pub invariant-tests : goal.invariant-tests
invariant-tests l = is_among (flat_map plain_in_test (drop l.test-index l.test-items)) l.number ≡ is_among (plain_in l.field) l.number
