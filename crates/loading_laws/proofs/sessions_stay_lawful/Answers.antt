-- That sessions stay lawful is shown in lemmas.
use Rattle.loading_laws.proofs.SessionLaws.{commands_leave_lawful, first_session_is_lawful, orders_leave_lawful, whole_commands_leave_lawful, whole_runs_lawfully}
use Rattle.loading_laws.proofs.sessions_stay_lawful.Goals as goal

pub returns-clause-first : goal.returns-clause-first
returns-clause-first c = first_session_is_lawful

pub returns-clause-runs : goal.returns-clause-runs
returns-clause-runs c = whole_runs_lawfully

pub returns-clause-orders : goal.returns-clause-orders
returns-clause-orders c = orders_leave_lawful

pub returns-clause-commands : goal.returns-clause-commands
returns-clause-commands c = commands_leave_lawful

pub returns-clause-whole : goal.returns-clause-whole
returns-clause-whole c = whole_commands_leave_lawful
