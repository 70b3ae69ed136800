use Rattle.std.proofs.Common.{◌++◌, sym, ap, subst, ◌∙◌, append_assoc}
use Rattle.std.specs.Prelude.{flat_map, map}
use Rattle.std.proofs.lemmas.Result.{on_ok_weaker}
use Rattle.soar_rule.specs.Conditions.{conditions}
use Rattle.soar_rule.specs.Productions.{action_seen, production_seen}
use Rattle.soar_rule.specs.Symbols.{constants_of_action, constants_of_conditions}
use Rattle.soar_show.specs.Known.{Knows}
use Rattle.soar_show.proofs.KnownLemmas.{knows_vars, knows_conditions, knows_actions}
use Rattle.soar_show.proofs.LineLemmas.{production_lines}
use Rattle.soar_show.proofs.production.push_production.Goals as goal

pub invariant_of-names : goal.invariant_of-names
invariant_of-names c =
    subst (Knows c.args.table.now) (sym c.as_slice.ensures) (knows_vars c.args.table.now (production_seen c.args.production.now) c.requires)

pub push_conditions-requires : goal.push_conditions-requires
push_conditions-requires c =
    subst (λ conds. Knows c.args.table.now (constants_of_conditions (conditions conds))) (sym c.as_slice-2.ensures)
    (knows_conditions c.args.table.now (production_seen c.args.production.now) c.requires)

pub push_actions-requires : goal.push_actions-requires
push_actions-requires c =
    subst (λ actions. Knows c.args.table.now (flat_map constants_of_action (map action_seen actions))) (sym c.as_slice-3.ensures)
    (knows_actions c.args.table.now (production_seen c.args.production.now) c.requires)

pub returns : goal.returns
returns c =
    on_ok_weaker c.push_str-2.result
    (λ end.
    (rw (c.in_ok-push_actions.ensures, c.in_ok-push_str.ensures.ok, c.in_ok-push_conditions.ensures, c.in_ok-push_support.ensures, c.in_ok-push_kind.ensures, c.in_ok-push_doc.ensures, c.in_ok-push_head.ensures, c.as_slice.ensures, c.as_slice-2.ensures, c.as_slice-3.ensures) at end)
    ∙ simp append_assoc (ap (λ text. c.args.out.now ++ text) (sym (simp append_assoc at (production_lines c.args.table.now (production_seen c.args.production.now))))))
    c.push_str-2.ensures.ok
