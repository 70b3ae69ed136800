use Rattle.soar_run.proofs.speaker.first_speaker.Goals as goal

pub returns-clause-ready : goal.returns-clause-ready
returns-clause-ready c = (c.in_ok-session.ensures.standing, c.in_ok-session.ensures.sound c.in_ok-session.ensures.standing)
