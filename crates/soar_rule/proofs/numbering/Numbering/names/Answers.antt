use Rattle.std.proofs.Common.{◌∙◌, ap, length, get_or, arith}
use Rattle.soar_rule.proofs.NumberingLemmas.{named}
use Rattle.soar_rule.proofs.numbering.Numbering.names.Goals as goal

pub variables-preserved : goal.variables-preserved
variables-preserved c =
    named c.args.self.now.order c.args.self.now.places c.variables.names c.push.new.self c.name_of.result c.variables.variable-index c.number.result _ c.args.self.now.placed
    (omega (arith, ap length c.as_slice-variable-items.ensures)) (ap (λ xs. get_or xs c.variables.variable-index 0) c.as_slice-variable-items.ensures)
    c.number.ensures c.name_of.ensures c.in_ok-push.ensures.ok
    ∙ c.variables.invariant
