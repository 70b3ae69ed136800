use Rattle.std.proofs.Common.{◌≡◌, drop, map}
use Rattle.soar_rule.specs.Productions.{value_seen, values_of}
use Rattle.body_marks.specs.Fingerprint.{after_values}
use Rattle.body_marks.proofs.actions.+values.Given as goal

abbrev pub invariant-after_values-values : goal.invariant-after_values-values
invariant-after_values-values l = after_values (values_of (map value_seen (drop l.value-index l.values))) l.last ≡ after_values (values_of (map value_seen l.values)) l.mark
