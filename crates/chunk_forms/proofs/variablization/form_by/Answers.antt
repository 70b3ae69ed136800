use Rattle.std.proofs.Common.{map}
use Rattle.soar_rule.specs.Conditions.{conditions}
use Rattle.soar_rule.specs.Productions.{action_seen}
use Rattle.chunk_forms.proofs.FormLemmas.{actions_closed, conds_closed, form_is}
use Rattle.chunk_forms.proofs.variablization.form_by.Goals as goal

pub invariant_of-result : goal.invariant_of-result
invariant_of-result c =
    let given = c.args.given.now in
    let cs = conditions c.args.conds.now in
    record {
      conds_closed = conds_closed given.general cs c.args.results.now given.variables.now c.requires c.in_ok-names.names c.in_ok-conds.conds c.in_ok-names.ensures c.in_ok-conds.ensures.whole;
      actions_closed = actions_closed given.general cs c.args.results.now given.variables.now c.requires c.in_ok-names.names c.in_ok-actions.actions c.in_ok-names.ensures c.in_ok-actions.ensures;
    }

pub returns : goal.returns
returns c = λ k chain same.
    let given = c.args.given.now in
    form_is given.general k chain (conditions c.args.conds.now) (conditions c.in_ok-conds.conds) c.args.results.now given.variables.now (map action_seen c.in_ok-actions.actions)
    c.in_ok-names.names same c.requires c.in_ok-conds.ensures.whole c.in_ok-actions.ensures c.in_ok-names.ensures
