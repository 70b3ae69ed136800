use Rattle.std.proofs.Common.{◌≡◌, ◌++◌, drop, map}
use Rattle.soar_rule.specs.Productions.{value_seen, values_of}
use Rattle.soar_rule.specs.Symbols.{constants_of_values}
use Rattle.defs_read.specs.Printing.{values_text}
use Rattle.soar_show.specs.Known.{Knows}
use Rattle.soar_show.proofs.actions.+values.Given as goal

abbrev pub invariant-push_values-values : goal.invariant-push_values-values
invariant-push_values-values l = record {
  known : Knows l.names.words (constants_of_values (values_of (map value_seen (drop l.value-index l.values))));
  text : l.out ++ values_text (values_of (map value_seen (drop l.value-index l.values))) l.names ≡ l.initial.out ++ values_text (values_of (map value_seen l.values)) l.names;
}
