-- That explanations need what they reach alone is shown in lemmas.
use Rattle.agent_laws.proofs.RecordLaws.{chains_by_record, chains_by_record_of_agent, numbers_by_record, roots_reach_more}
use Rattle.agent_laws.proofs.explanations_need_what_they_reach.Goals as goal

pub returns-clause-numbers : goal.returns-clause-numbers
returns-clause-numbers c = numbers_by_record

pub returns-clause-chains : goal.returns-clause-chains
returns-clause-chains c = chains_by_record

pub returns-clause-roots : goal.returns-clause-roots
returns-clause-roots c = roots_reach_more

pub returns-clause-agents : goal.returns-clause-agents
returns-clause-agents c = chains_by_record_of_agent
