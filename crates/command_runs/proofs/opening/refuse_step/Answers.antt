use Rattle.command_runs.proofs.opening.refuse_step.Goals as goal

pub returns-in-Ok-clause-refused : goal.returns-in-Ok-clause-refused
returns-in-Ok-clause-refused g c = λ fails inner r at. c.in-Ok.ensures.refused fails r at

pub returns-in-Err-clause-refused : goal.returns-in-Err-clause-refused
returns-in-Err-clause-refused g c = λ fails inner r at. c.in-Err.ensures.refused fails r at
