use Rattle.std.proofs.Common.{◌∙◌, ap, arith}
use Rattle.soar_rule.specs.Conditions.{condition, conditions}
use Rattle.soar_rule.specs.Renaming.{condition_with, conditions_with}
use Rattle.soar_rule.proofs.RenumberingLemmas.{conj_with, each_with, whole_with}
use Rattle.condition_copies.proofs.copying.+conditions.Goals as goal

pub conds_with-returns-clause-each : goal.conds_with-returns-clause-each
conds_with-returns-clause-each g t c =
    each_with condition (condition_with (g.R.Replaces.replaced c.args.atoms.now)) c.conds.out c.args.conds.now c.conds.cond-index (omega arith) c.conds.invariant

pub conds_with-returns-clause-whole : goal.conds_with-returns-clause-whole
conds_with-returns-clause-whole g t c = whole_with (g.R.Replaces.replaced c.args.atoms.now) c.conds.out c.args.conds.now c.conds.cond-index (omega arith) c.conds.invariant

pub cond_with-returns-in_ok-conds_with-in-Conj : goal.cond_with-returns-in_ok-conds_with-in-Conj
cond_with-returns-in_ok-conds_with-in-Conj g t c =
    conj_with (g.R.Replaces.replaced c.args.atoms.now) c.in_ok-conds_with-in-Conj.field-0 c.in-Conj.inside c.args.cond.now c.in-Conj.is
    (c.in_ok-conds_with-in-Conj.ensures.whole ∙ ap (λ cs. conditions_with (g.R.Replaces.replaced c.args.atoms.now) (conditions cs)) c.as_slice.ensures)
