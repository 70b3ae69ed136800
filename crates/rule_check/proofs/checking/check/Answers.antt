use Rattle.std.proofs.Common.{◌≡◌, Err, ap, ◌∙◌}
use Rattle.std.proofs.lemmas.Result.{err_from_is_err_and}
use Rattle.soar_rule.specs.Conditions.{Conditions, all_of, conditions}
use Rattle.soar_rule.specs.MatchOrder.{taken_in_order}
use Rattle.soar_rule.specs.Productions.{ProductionOf, production_seen}
use Rattle.rule_check.proofs.CheckingLemmas.{checked_fault, checked_whole}
use Rattle.rule_check.proofs.checking.check.Goals as goal

pub returns-in_err-check_all : goal.returns-in_err-check_all
returns-in_err-check_all c =
    let p = err_from_is_err_and c.from_residual-in_err-check_all.result c.from_residual-in_err-check_all.ensures.1 in
    checked_fault (production_seen c.args.production.now) c.from_residual-in_err-check_all.result c.in_err-check_all.field-0.0 c.in_err-check_all.ensures (p.1 ∙ ap Err p.2)

pub returns : goal.returns
returns c =
    let seen : ProductionOf = production_seen c.args.production.now in
    let order : conditions c.in_ok-taken.taken.conds ≡ all_of (taken_in_order seen.conditions).order =
    c.in_ok-taken.ensures.order ∙ ap (λ conds. all_of (taken_in_order (conditions conds)).order) c.as_slice.ensures in
    checked_whole seen c.in_ok-with_conds.field-0 c.in_ok-check_all.ensures (c.in_ok-with_conds.ensures.seen ∙ ap (λ (cs : Conditions). record seen { conditions = cs }) order)
