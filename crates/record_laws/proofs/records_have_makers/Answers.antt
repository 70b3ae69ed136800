-- What records with makers have is shown in lemmas.
use Rattle.record_laws.proofs.ClosedLaws.{reached_have_makers, recorded_roots_suffice, roots_are_recorded}
use Rattle.record_laws.proofs.records_have_makers.Goals as goal

pub returns-clause-roots : goal.returns-clause-roots
returns-clause-roots c = recorded_roots_suffice

pub returns-clause-recorded : goal.returns-clause-recorded
returns-clause-recorded c = roots_are_recorded

pub returns-clause-reached : goal.returns-clause-reached
returns-clause-reached c = reached_have_makers
