use Rattle.rule_laws.proofs.BoundLaws.{checked_is_bound}
use Rattle.rule_laws.proofs.CheckedStays.{checked_stays}
use Rattle.rule_laws.proofs.WholeLaws.{checked_is_whole}
use Rattle.rule_laws.proofs.RenumberedStays.{renumbered_stays}
use Rattle.rule_laws.proofs.checked_is_in_order.Goals as goal

pub returns-clause-stays : goal.returns-clause-stays
returns-clause-stays c = checked_stays

pub returns-clause-bound : goal.returns-clause-bound
returns-clause-bound c = checked_is_bound

pub returns-clause-whole : goal.returns-clause-whole
returns-clause-whole c = checked_is_whole

pub returns-clause-renumbered : goal.returns-clause-renumbered
returns-clause-renumbered c = renumbered_stays
