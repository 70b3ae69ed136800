-- That operands are given is shown in lemmas.
use Rattle.loading_laws.proofs.LabelLaws.{elements_are_given, labels_stay_given, operands_are_given, resolving_grows, resolving_keeps_agents, resolving_keeps_labels, spelled_are_given, spelling_keeps_agents}
use Rattle.loading_laws.proofs.operands_are_given.Goals as goal

pub returns-clause-stay : goal.returns-clause-stay
returns-clause-stay c = labels_stay_given

pub returns-clause-labels : goal.returns-clause-labels
returns-clause-labels c = resolving_keeps_labels

pub returns-clause-grow : goal.returns-clause-grow
returns-clause-grow c = resolving_grows

pub returns-clause-operands : goal.returns-clause-operands
returns-clause-operands c = operands_are_given

pub returns-clause-spelled : goal.returns-clause-spelled
returns-clause-spelled c = spelled_are_given

pub returns-clause-elements : goal.returns-clause-elements
returns-clause-elements c = elements_are_given

pub returns-clause-agents : goal.returns-clause-agents
returns-clause-agents c = resolving_keeps_agents

pub returns-clause-spelling : goal.returns-clause-spelling
returns-clause-spelling c = spelling_keeps_agents
