use Rattle.std.proofs.Common.{drop, sym, ◌∙◌}
use Rattle.chain_identifiers.proofs.BindingLemmas.{paired_done}
use Rattle.chain_identifiers.proofs.bindings.paired.Goals as goal

pub returns-in-None : goal.returns-in-None
returns-in-None c =
    sym (paired_done c.variables.bindings.items (drop c.variables.variable-index c.args.variables.now) c.variables.left.now c.in-None.ensures.cases) ∙ c.variables.invariant
