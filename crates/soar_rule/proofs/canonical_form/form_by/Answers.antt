use Rattle.std.proofs.Common.{◌∙◌, map, ap}
use Rattle.soar_rule.specs.Canonical.{renumbered}
use Rattle.soar_rule.specs.Conditions.{conditions}
use Rattle.soar_rule.specs.Productions.{action_seen, production_seen}
use Rattle.soar_rule.specs.Renaming.{action_with, conditions_with}
use Rattle.soar_rule.proofs.CanonicalLemmas.{conds_closed, actions_closed, form_is}
use Rattle.soar_rule.proofs.canonical_form.form_by.Goals as goal

pub invariant_of-result : goal.invariant_of-result
invariant_of-result c = record {
  conds_closed = conds_closed (conditions c.args.production.now.conds) (map action_seen c.args.production.now.actions) c.args.numbering.now.order c.requires
      c.in_ok-vars.vars c.in_ok-conds.conds c.in_ok-vars.ensures
      (c.in_ok-conds.ensures.renumbered ∙ ap (λ cs. conditions_with (renumbered c.args.numbering.now.order) (conditions cs)) c.as_slice.ensures);
  actions_closed = actions_closed (conditions c.args.production.now.conds) (map action_seen c.args.production.now.actions) c.args.numbering.now.order c.requires
      c.in_ok-vars.vars c.in_ok-actions.actions c.in_ok-vars.ensures
      (c.in_ok-actions.ensures.renumbered ∙ ap (λ xs. map (action_with (renumbered c.args.numbering.now.order)) (map action_seen xs)) c.as_slice-2.ensures);
}

pub returns : goal.returns
returns c =
    form_is (production_seen c.args.production.now) c.args.numbering.now.order c.in_ok-vars.vars (conditions c.in_ok-conds.conds)
    (map action_seen c.in_ok-actions.actions) c.requires
    c.in_ok-vars.ensures
    (c.in_ok-conds.ensures.renumbered ∙ ap (λ cs. conditions_with (renumbered c.args.numbering.now.order) (conditions cs)) c.as_slice.ensures)
    (c.in_ok-actions.ensures.renumbered ∙ ap (λ xs. map (action_with (renumbered c.args.numbering.now.order)) (map action_seen xs)) c.as_slice-2.ensures)
