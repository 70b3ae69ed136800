-- That sessions keep explanations is shown in lemmas.
use Rattle.explanation_laws.proofs.OrderStays.{all_commands_stay, commands_stay, orders_stay, whole_commands_stay}
use Rattle.explanation_laws.proofs.sessions_keep_explanations.Goals as goal

pub returns-clause-orders : goal.returns-clause-orders
returns-clause-orders c = orders_stay

pub returns-clause-commands : goal.returns-clause-commands
returns-clause-commands c = commands_stay

pub returns-clause-whole : goal.returns-clause-whole
returns-clause-whole c = whole_commands_stay

pub returns-clause-all : goal.returns-clause-all
returns-clause-all c = all_commands_stay
