use Rattle.std.proofs.Common.{false, []}
use Rattle.std.proofs.lemmas.Result.{IfOk-weaker}
use Rattle.soar_rule.specs.Conditions.{conditions}
use Rattle.soar_rule.specs.MatchOrder.{taken_in_order}
use Rattle.rule_check.proofs.OrderBelowLemmas.{conds_stay_below}
use Rattle.rule_check.proofs.StopLemmas.{stop_left}
use Rattle.rule_check.proofs.order.take_in_order.Goals as goal

pub returns-clause-below : goal.returns-clause-below
returns-clause-below c =
    IfOk-weaker c.take_all.result _ _ (λ order taken. conds_stay_below c.args.count c.args.conds.now order.conds false [] c.requires taken.taken) (c.take_all.ensures [] c.new.ensures)

pub returns-clause-stop : goal.returns-clause-stop
unfolding taken_in_order
returns-clause-stop c =
    IfOk-weaker c.take_all.result _ _ (λ order taken. stop_left (conditions c.args.conds.now) (taken_in_order (conditions c.args.conds.now)) order.left taken.left) (c.take_all.ensures [] c.new.ensures)
