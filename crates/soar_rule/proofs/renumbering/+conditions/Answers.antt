use Rattle.std.proofs.Common.{◌∙◌, ap, arith}
use Rattle.std.specs.Option.{option_copied}
use Rattle.soar_rule.specs.Renumbering.{renumbered_by}
use Rattle.soar_rule.specs.Conditions.{conditions}
use Rattle.soar_rule.specs.Renaming.{conditions_with}
use Rattle.soar_rule.proofs.RenumberingLemmas.{whole_with, conj_with}
use Rattle.soar_rule.proofs.renumbering.+conditions.Goals as goal

pub renumber_conds-returns-clause-renumbered : goal.renumber_conds-returns-clause-renumbered
renumber_conds-returns-clause-renumbered t c = whole_with (renumbered_by (option_copied c.args.numbering)) c.conds.out c.args.conds.now c.conds.cond-index (omega arith) c.conds.invariant.renumbered

pub renumber_cond-returns-in_ok-renumber_conds-in-Conj-clause-renumbered : goal.renumber_cond-returns-in_ok-renumber_conds-in-Conj-clause-renumbered
renumber_cond-returns-in_ok-renumber_conds-in-Conj-clause-renumbered t c =
    conj_with (renumbered_by (option_copied c.args.numbering)) c.in_ok-renumber_conds-in-Conj.field-0 c.in-Conj.inside c.args.cond.now c.in-Conj.is
    (c.in_ok-renumber_conds-in-Conj.ensures.renumbered ∙ ap (λ cs. conditions_with (renumbered_by (option_copied c.args.numbering)) (conditions cs)) c.as_slice.ensures)
