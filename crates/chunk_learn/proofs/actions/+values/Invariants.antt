use Rattle.std.proofs.Common.{◌≡◌, drop}
use Rattle.soar_rule.specs.Equality.{list_eq}
use Rattle.chunk_learn.specs.Seen.{seen_value_eq}
use Rattle.chunk_learn.proofs.actions.+values.Given as goal

abbrev pub invariant-same_values-values : goal.invariant-same_values-values
invariant-same_values-values l = list_eq seen_value_eq (drop l.value-index l.a) l.rest ≡ list_eq seen_value_eq l.a l.b
