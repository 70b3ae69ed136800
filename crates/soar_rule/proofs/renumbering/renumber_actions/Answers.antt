use Rattle.std.proofs.Common.{arith}
use Rattle.std.specs.Option.{option_copied}
use Rattle.soar_rule.specs.Renumbering.{renumbered_by}
use Rattle.soar_rule.specs.Productions.{action_seen}
use Rattle.soar_rule.specs.Renaming.{action_with}
use Rattle.soar_rule.proofs.RenumberingLemmas.{each_with}
use Rattle.soar_rule.proofs.renumbering.renumber_actions.Goals as goal

pub returns-clause-renumbered : goal.returns-clause-renumbered
returns-clause-renumbered c = each_with action_seen (action_with (renumbered_by (option_copied c.args.numbering))) c.actions.out c.args.actions.now c.actions.action-index (omega arith) c.actions.invariant.renumbered
