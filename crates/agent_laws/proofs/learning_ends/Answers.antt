-- That learning ends is shown in lemmas.
use Rattle.agent_laws.proofs.EndingLaws.{firings_go_on_within, learning_ends, rounds_rise, waves_learn_all}
use Rattle.agent_laws.proofs.learning_ends.Goals as goal

pub returns-clause-rounds : goal.returns-clause-rounds
returns-clause-rounds c = rounds_rise

pub returns-clause-last : goal.returns-clause-last
returns-clause-last c = learning_ends

pub returns-clause-firings : goal.returns-clause-firings
returns-clause-firings c = firings_go_on_within

pub returns-clause-waves : goal.returns-clause-waves
returns-clause-waves c = waves_learn_all
