use Rattle.matching_laws.proofs.LawfulLemmas.{retagged_is_lawful}
use Rattle.matching_laws.proofs.TellingLemmas.{changes_are_told}
use Rattle.matching_laws.proofs.changes_are_told.Goals as goal

pub returns-clause-told : goal.returns-clause-told
returns-clause-told c = changes_are_told

pub returns-clause-lawful : goal.returns-clause-lawful
returns-clause-lawful c = retagged_is_lawful
