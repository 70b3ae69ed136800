use Rattle.std.proofs.Common.{◌++◌, sym, ap, refl, ◌∙◌, append_assoc, arith, rules}
use denote.Param.Weighed.{at_most}
use Rattle.soar_rule.specs.declared.cond.Cond.{size-Cond}
use Rattle.soar_rule.specs.Conditions.{condition, conditions}
use Rattle.soar_rule.specs.Symbols.{constants_of_condition, constants_of_conditions}
use Rattle.soar_show.specs.Lines.{with_gaps}
use Rattle.soar_show.proofs.KnownLemmas.{knows_item, knows_later}
use Rattle.soar_show.proofs.LineLemmas.{inside_with_gaps}
use Rattle.soar_show.proofs.ListLemmas.{drop_item}
use Rattle.soar_show.proofs.conditions.+conditions.Goals as goal

pub push_inside-conds-init : goal.push_inside-conds-init
push_inside-conds-init t c = record {
  utf8 = search rules;
  known = c.requires;
  text = ap (λ text. c.args.out.now ++ text) (inside_with_gaps c.args.conds.now c.args.names.now);
}

pub push_inside-push_condition-requires : goal.push_inside-push_condition-requires
push_inside-push_condition-requires t c = (
  omega (arith, ap size-Cond c.cond-item.is, at_most size-Cond c.args.conds.now c.conds.cond-index c.cond-item.result c.conds-test.true),
  knows_item (λ x. constants_of_condition (condition x)) (λ xs. constants_of_conditions (conditions xs)) (λ x xs. refl) _ c.args.conds.now c.conds.cond-index c.cond-item.result c.conds-test.true c.cond-item.is c.conds.invariant.known,
)

pub push_inside-conds-preserved : goal.push_inside-conds-preserved
push_inside-conds-preserved t c =
    let next = drop_item c.args.conds.now c.conds.cond-index c.cond-item.result c.conds-test.true c.cond-item.is in
    record {
      utf8 = search rules;
      known = knows_later (λ x. constants_of_condition (condition x)) (λ xs. constants_of_conditions (conditions xs)) (λ x xs. refl) _ c.args.conds.now c.conds.cond-index c.cond-item.result c.conds-test.true c.cond-item.is c.conds.invariant.known;
      text =
          (rw (c.in_ok-push_condition.ensures, c.in_ok-push_str.ensures.ok)
          (simp append_assoc (sym (ap (λ conds. c.conds.out ++ with_gaps c.conds.gap.now conds c.args.names.now) next))))
          ∙ c.conds.invariant.text;
    }
