use Rattle.wave_tests.proofs.agent.anew.tells.Goals as goal

pub input_now-requires-clause-given : goal.input_now-requires-clause-given
input_now-requires-clause-given c = λ standing. c.input.ensures _ (c.requires standing).1
