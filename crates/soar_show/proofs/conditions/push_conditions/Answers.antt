use Rattle.std.proofs.Common.{◌++◌, sym, ap, refl, ◌∙◌, append_assoc, arith}
use Rattle.std.proofs.lemmas.Str.{encode_ascii}
use Rattle.soar_rule.specs.Conditions.{condition, conditions}
use Rattle.soar_rule.specs.Symbols.{constants_of_condition, constants_of_conditions}
use Rattle.defs_read.specs.PrintingConditions.{condition_lines}
use Rattle.soar_show.specs.Lines.{inner_text}
use Rattle.soar_show.proofs.KnownLemmas.{knows_item, knows_later}
use Rattle.soar_show.proofs.ListLemmas.{drop_item}
use Rattle.soar_show.proofs.conditions.push_conditions.Goals as goal

pub push_condition-requires : goal.push_condition-requires
push_condition-requires c =
    knows_item (λ x. constants_of_condition (condition x)) (λ xs. constants_of_conditions (conditions xs)) (λ x xs. refl) _ c.args.conds.now c.conds.cond-index c.cond-item.result c.conds-test.true c.cond-item.is c.conds.invariant.known

pub conds-preserved : goal.conds-preserved
conds-preserved c =
    let next = drop_item c.args.conds.now c.conds.cond-index c.cond-item.result c.conds-test.true c.cond-item.is in
    record {
      known = knows_later (λ x. constants_of_condition (condition x)) (λ xs. constants_of_conditions (conditions xs)) (λ x xs. refl) _ c.args.conds.now c.conds.cond-index c.cond-item.result c.conds-test.true c.cond-item.is c.conds.invariant.known;
      text =
          (rw (c.in_ok-push.ensures.ok, c.in_ok-push_condition.ensures, c.in_ok-push_str.ensures.ok)
          (simp (append_assoc, encode_ascii 10 (omega arith)) (sym (ap (λ conds. c.conds.out ++ inner_text (condition_lines (conditions conds) c.args.names.now)) next))))
          ∙ c.conds.invariant.text;
    }
