use Rattle.std.proofs.Common.{◌∙◌}
use Rattle.touched_tags.proofs.LimitLemmas.{few_gone, limit_is, plan_is}
use Rattle.touched_tags.proofs.planning.planned.Goals as goal

pub passed-requires-clause-few : goal.passed-requires-clause-few
passed-requires-clause-few g c =
    few_gone c.args.table.now c.args.goals.now (g.K.KeptSet.triples c.args.kept.now) c.args.memory.now c.in_ok-plan.plan c.in_ok-plan.ensures c.len.result c.len.ensures

pub returns-in-Some : goal.returns-in-Some
returns-in-Some g c =
    limit_is c.args.table.now c.args.goals.now (g.K.KeptSet.triples c.args.kept.now) c.args.memory.now c.in_ok-plan.plan c.in_ok-plan.ensures c.len.result c.len.ensures
    c.len-2.result c.len-2.ensures c.in_ok-which.field-0 c.in_ok-which.ensures
    ∙ c.in-Some.is

pub returns-in-None : goal.returns-in-None
returns-in-None g c =
    plan_is c.args.table.now c.args.goals.now (g.K.KeptSet.triples c.args.kept.now) c.args.memory.now c.in_ok-plan.plan c.in_ok-plan.ensures c.len.result c.len.ensures
    c.len-2.result c.len-2.ensures c.in_ok-which.field-0 c.in_ok-which.ensures c.in-None.is
