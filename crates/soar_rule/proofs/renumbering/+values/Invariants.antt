use Rattle.std.proofs.Common.{◌≡◌, map, None, take}
use Rattle.std.specs.Option.{option_copied}
use Rattle.soar_rule.specs.Renumbering.{renumbered_by}
use Rattle.soar_rule.specs.Productions.{value_seen}
use Rattle.soar_rule.specs.Renaming.{value_with}
use Rattle.soar_rule.proofs.renumbering.+values.Given as goal

abbrev pub invariant-renumber_values-values : goal.invariant-renumber_values-values
invariant-renumber_values-values l = record {
  renumbered : map value_seen l.out ≡ map (λ v. value_with (renumbered_by (option_copied l.numbering)) (value_seen v)) (take l.value-index l.values);
  kept : l.numbering ≡ None → l.out ≡ take l.value-index l.values;
}
