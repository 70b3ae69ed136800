-- That programs are numbered is shown in lemmas.
use Rattle.explanation_laws.proofs.CycleStays.{first_agent_is_numbered, first_session_is_numbered}
use Rattle.explanation_laws.proofs.ProgramLaws.{later_itself, later_twice}
use Rattle.explanation_laws.proofs.programs_are_numbered.Goals as goal

pub returns-clause-agent : goal.returns-clause-agent
returns-clause-agent c = first_agent_is_numbered

pub returns-clause-session : goal.returns-clause-session
returns-clause-session c = first_session_is_numbered

pub returns-clause-itself : goal.returns-clause-itself
returns-clause-itself c = later_itself

pub returns-clause-twice : goal.returns-clause-twice
returns-clause-twice c = later_twice
