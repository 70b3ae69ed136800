-- That records stay is shown in lemmas.
use Rattle.agent_laws.proofs.RecordStepLaws.{decision_keeps_record, first_has_no_record, input_keeps_record, inputs_keep_record, output_keeps_record, records_may_shrink, starting_anew_has_no_record}
use Rattle.agent_laws.proofs.OrderLaws.{doing_without_keeps_order, learning_keeps_order}
use Rattle.agent_laws.proofs.WaveRecords.{waves_join_record}
use Rattle.agent_laws.proofs.records_stay.Goals as goal

pub returns-clause-first : goal.returns-clause-first
returns-clause-first c = first_has_no_record

pub returns-clause-anew : goal.returns-clause-anew
returns-clause-anew c = starting_anew_has_no_record

pub returns-clause-input : goal.returns-clause-input
returns-clause-input c = input_keeps_record

pub returns-clause-output : goal.returns-clause-output
returns-clause-output c = output_keeps_record

pub returns-clause-inputs : goal.returns-clause-inputs
returns-clause-inputs c = inputs_keep_record

pub returns-clause-decision : goal.returns-clause-decision
returns-clause-decision c = decision_keeps_record

pub returns-clause-shrink : goal.returns-clause-shrink
returns-clause-shrink c = records_may_shrink

pub returns-clause-learning : goal.returns-clause-learning
returns-clause-learning c = learning_keeps_order

pub returns-clause-doing_without : goal.returns-clause-doing_without
returns-clause-doing_without c = doing_without_keeps_order

pub returns-clause-waves : goal.returns-clause-waves
returns-clause-waves c = waves_join_record
