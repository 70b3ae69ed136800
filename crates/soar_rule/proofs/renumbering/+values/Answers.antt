use Rattle.std.proofs.Common.{◌∙◌, ap, map, arith}
use Rattle.std.specs.Option.{option_copied}
use Rattle.soar_rule.specs.Renumbering.{renumbered_by}
use Rattle.soar_rule.specs.Productions.{value_seen}
use Rattle.soar_rule.specs.Renaming.{value_with}
use Rattle.soar_rule.proofs.RenumberingLemmas.{each_with, call_with}
use Rattle.soar_rule.proofs.renumbering.+values.Goals as goal

pub renumber_values-returns-clause-renumbered : goal.renumber_values-returns-clause-renumbered
renumber_values-returns-clause-renumbered t c = each_with value_seen (value_with (renumbered_by (option_copied c.args.numbering))) c.values.out c.args.values.now c.values.value-index (omega arith) c.values.invariant.renumbered

pub renumber_value-returns-in_ok-renumber_values-in-Call-clause-renumbered : goal.renumber_value-returns-in_ok-renumber_values-in-Call-clause-renumbered
renumber_value-returns-in_ok-renumber_values-in-Call-clause-renumbered t c =
    call_with (renumbered_by (option_copied c.args.numbering)) c.in-Call.func c.in_ok-renumber_values-in-Call.field-0 c.in-Call.values c.args.value.now c.in-Call.is
    (c.in_ok-renumber_values-in-Call.ensures.renumbered ∙ ap (λ vs. map (value_with (renumbered_by (option_copied c.args.numbering))) (map value_seen vs)) c.as_slice.ensures)
