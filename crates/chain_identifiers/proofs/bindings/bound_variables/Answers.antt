use Rattle.std.proofs.Common.{◌+◌, drop, ap, sym, ◌∙◌}
use Rattle.soar_rule.specs.Conditions.{conditions}
use Rattle.soar_rule.specs.Variables.{plain_outside, with_each}
use Rattle.chain_identifiers.proofs.BindingLemmas.{next_bound}
use Rattle.chain_identifiers.proofs.bindings.bound_variables.Goals as goal

pub conds-preserved : goal.conds-preserved
conds-preserved c =
    ap (λ seen. with_each seen (plain_outside (conditions (drop (c.conds.cond-index + 1) c.args.conds.now)))) c.in_ok-add_bound.ensures
    ∙ sym (next_bound c.conds.seen.items c.args.conds.now c.conds.cond-index c.cond-item.result c.conds-test.true c.cond-item.is)
    ∙ c.conds.invariant
