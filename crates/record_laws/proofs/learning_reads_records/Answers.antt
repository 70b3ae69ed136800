-- What is read from a record is shown in lemmas.
use Rattle.record_laws.proofs.LawfulRecords.{lawful_by_record}
use Rattle.record_laws.proofs.LearningRecords.{learning_by_record}
use Rattle.record_laws.proofs.learning_reads_records.Goals as goal

pub returns-clause-lawful : goal.returns-clause-lawful
returns-clause-lawful c = lawful_by_record

pub returns-clause-learning : goal.returns-clause-learning
returns-clause-learning c = learning_by_record
