use Rattle.removal_laws.proofs.NestedLemmas.{first_goals_are_left, removals_are_nested}
use Rattle.removal_laws.proofs.removals_are_nested.Goals as goal

pub returns-clause-removed : goal.returns-clause-removed
returns-clause-removed c = removals_are_nested

pub returns-clause-goals : goal.returns-clause-goals
returns-clause-goals c = first_goals_are_left
