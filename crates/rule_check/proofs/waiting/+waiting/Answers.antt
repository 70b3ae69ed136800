use Rattle.std.proofs.Common.{◌+◌, drop, sym, ap, ◌∙◌}
use Rattle.soar_rule.specs.Conditions.{conditions}
use Rattle.soar_rule.specs.MatchOrder.{or_else, waits_for}
use Rattle.soar_rule.specs.Variables.{variables_of_conditions}
use Rattle.rule_check.specs.Members.{members}
use Rattle.rule_check.proofs.ItemLemmas.{first_answers, second_answers}
use Rattle.rule_check.proofs.WaitingLemmas.{waits_item}
use Rattle.rule_check.proofs.waiting.+waiting.Goals as goal

pub awaited_in_conds-returns-then-is_some : goal.awaited_in_conds-returns-then-is_some
awaited_in_conds-returns-then-is_some t c =
    let rest = waits_for (members c.args.outside.now.marks) (members c.args.bound.now.marks) (variables_of_conditions (conditions (drop (c.conds.cond-index + 1) c.args.conds.now))) in
    first_answers c.awaited_in_cond-awaited.result rest (sym c.is_some.ensures ∙ c.if-is_some.true)
    ∙ ap (λ a. or_else a rest) c.awaited_in_cond-awaited.ensures
    ∙ sym (waits_item (members c.args.outside.now.marks) (members c.args.bound.now.marks) c.args.conds.now c.conds.cond-index c.cond-item.result c.conds-test.true c.cond-item.is)
    ∙ c.conds.invariant

pub awaited_in_conds-conds-preserved : goal.awaited_in_conds-conds-preserved
awaited_in_conds-conds-preserved t c =
    let rest = waits_for (members c.args.outside.now.marks) (members c.args.bound.now.marks) (variables_of_conditions (conditions (drop (c.conds.cond-index + 1) c.args.conds.now))) in
    second_answers c.awaited_in_cond-awaited.result rest (sym c.is_some.ensures ∙ c.if-is_some.false)
    ∙ ap (λ a. or_else a rest) c.awaited_in_cond-awaited.ensures
    ∙ sym (waits_item (members c.args.outside.now.marks) (members c.args.bound.now.marks) c.args.conds.now c.conds.cond-index c.cond-item.result c.conds-test.true c.cond-item.is)
    ∙ c.conds.invariant
