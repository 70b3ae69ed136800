use Rattle.std.proofs.Common.{◌∙◌}
use Rattle.negation_parts.proofs.NegationLemmas.{first_tells}
use Rattle.negation_parts.proofs.negation.blocks.Goals as goal

pub returns : goal.returns
returns c = c.in_ok-found.ensures.run ∙ first_tells c.args.front.now c.args.rows.now.entries c.in_ok-found.ensures.ordered
