use Rattle.soar_agent.proofs.state.Session.cycle.Goals as goal

pub returns-clause-course : goal.returns-clause-course
returns-clause-course g c = λ stands history remembers. c.run_cycle-answer.ensures.course history remembers
