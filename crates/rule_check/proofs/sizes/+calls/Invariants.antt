use Rattle.std.proofs.Common.{◌≡◌, nat_lt, drop, map}
use Rattle.soar_rule.specs.Productions.{value_seen, values_of}
use Rattle.soar_rule.specs.Sizes.{calls_in_all}
use Rattle.rule_check.proofs.sizes.+calls.Given as goal

abbrev pub invariant-any_calls_deeper-values : goal.invariant-any_calls_deeper-values
invariant-any_calls_deeper-values l = nat_lt l.limit (calls_in_all (values_of (map value_seen (drop l.value-index l.values)))) ≡ nat_lt l.limit (calls_in_all (values_of (map value_seen l.values)))
