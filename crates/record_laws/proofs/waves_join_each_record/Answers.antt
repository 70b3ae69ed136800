-- How the firings of a wave join is shown in lemmas.
use Rattle.record_laws.proofs.JoiningLaws.{later_join, waves_leave_record}
use Rattle.record_laws.proofs.waves_join_each_record.Goals as goal

pub returns-clause-later : goal.returns-clause-later
returns-clause-later c = later_join

pub returns-clause-waves : goal.returns-clause-waves
returns-clause-waves c = waves_leave_record
