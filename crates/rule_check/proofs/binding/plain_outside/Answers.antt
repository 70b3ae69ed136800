use Rattle.std.proofs.Common.{subst, take}
use Rattle.soar_rule.specs.Conditions.{conditions}
use Rattle.soar_rule.specs.Variables.{plain_outside}
use Rattle.rule_check.specs.Marking.{AreMarked}
use Rattle.rule_check.proofs.BindingLemmas.{outside_item}
use Rattle.rule_check.proofs.binding.plain_outside.Goals as goal

pub conds-preserved : goal.conds-preserved
conds-preserved c =
    subst (AreMarked c.join_bound.new.marks.marks) (outside_item c.args.conds.now c.conds.cond-index c.cond-item.result c.conds-test.true c.cond-item.is)
    (c.in_ok-join_bound.ensures (plain_outside (conditions (take c.conds.cond-index c.args.conds.now))) c.conds.invariant)
