use Rattle.std.proofs.Common.{◌≡◌, drop, []}
use Rattle.soar_rule.specs.Conditions.{conditions}
use Rattle.soar_rule.specs.Variables.{plain_outside, with_each}
use Rattle.chain_identifiers.proofs.bindings.bound_variables.Given as goal

abbrev pub invariant-conds : goal.invariant-conds
invariant-conds l = with_each l.seen.items (plain_outside (conditions (drop l.cond-index l.conds))) ≡ with_each [] (plain_outside (conditions l.conds))
