-- That agents stay lawful is shown in lemmas.
use Rattle.learning_laws.proofs.DecideLaws.{decision_keeps}
use Rattle.learning_laws.proofs.FiringsLaws.{all_firings_keep, firings_keep}
use Rattle.learning_laws.proofs.FirstLaws.{first_is_lawful, starting_anew_keeps}
use Rattle.learning_laws.proofs.FoundedLaws.{inputs_keep, queues_keep, input_keeps, lawful_agents_are_settled, lawful_agents_have_records, output_keeps, rules_keep, settling_keeps}
use Rattle.learning_laws.proofs.ChunkJoins.{learning_steps_keep}
use Rattle.learning_laws.proofs.RunLaws.{learning_keeps, phases_keep, runs_keep, waves_keep}
use Rattle.learning_laws.proofs.LearnedRuleLaws.{doing_without_keeps, steps_without_rule_keep, names_keep}
use Rattle.learning_laws.proofs.WaveLearning.{chunks_of_waves, waves_give_learning_steps}
use Rattle.learning_laws.proofs.WorkLaws.{waves_begin, work_keeps}
use Rattle.learning_laws.proofs.agents_stay_lawful.Goals as goal

pub returns-clause-settled : goal.returns-clause-settled
returns-clause-settled c = lawful_agents_are_settled

pub returns-clause-records : goal.returns-clause-records
returns-clause-records c = lawful_agents_have_records

pub returns-clause-first : goal.returns-clause-first
returns-clause-first c = first_is_lawful

pub returns-clause-anew : goal.returns-clause-anew
returns-clause-anew c = starting_anew_keeps

pub returns-clause-settling : goal.returns-clause-settling
returns-clause-settling c = settling_keeps

pub returns-clause-input : goal.returns-clause-input
returns-clause-input c = input_keeps

pub returns-clause-output : goal.returns-clause-output
returns-clause-output c = output_keeps

pub returns-clause-decision : goal.returns-clause-decision
returns-clause-decision c = decision_keeps

pub returns-clause-rules : goal.returns-clause-rules
returns-clause-rules c = rules_keep

pub returns-clause-begin : goal.returns-clause-begin
returns-clause-begin c = waves_begin

pub returns-clause-firing : goal.returns-clause-firing
returns-clause-firing c = firings_keep

pub returns-clause-firings : goal.returns-clause-firings
returns-clause-firings c = all_firings_keep

pub returns-clause-work : goal.returns-clause-work
returns-clause-work c = work_keeps

pub returns-clause-teaching : goal.returns-clause-teaching
returns-clause-teaching c = learning_steps_keep

pub returns-clause-learning : goal.returns-clause-learning
returns-clause-learning c = learning_keeps

pub returns-clause-doing_without : goal.returns-clause-doing_without
returns-clause-doing_without c = doing_without_keeps

pub returns-clause-waves : goal.returns-clause-waves
returns-clause-waves c = waves_keep

pub returns-clause-phases : goal.returns-clause-phases
returns-clause-phases c = phases_keep

pub returns-clause-runs : goal.returns-clause-runs
returns-clause-runs c = runs_keep

pub returns-clause-learning_steps : goal.returns-clause-learning_steps
returns-clause-learning_steps c = waves_give_learning_steps

pub returns-clause-chunks : goal.returns-clause-chunks
returns-clause-chunks c = chunks_of_waves

pub returns-clause-names : goal.returns-clause-names
returns-clause-names c = names_keep

pub returns-clause-without : goal.returns-clause-without
returns-clause-without c = steps_without_rule_keep

pub returns-clause-inputs : goal.returns-clause-inputs
returns-clause-inputs c = inputs_keep

pub returns-clause-queues : goal.returns-clause-queues
returns-clause-queues c = queues_keep
