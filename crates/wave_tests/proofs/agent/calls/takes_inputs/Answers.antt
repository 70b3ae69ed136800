use Rattle.wave_tests.proofs.agent.calls.takes_inputs.Goals as goal

pub queue-requires-clause-given : goal.queue-requires-clause-given
queue-requires-clause-given c = λ standing. c.input.ensures _ (c.in_ok-given.ensures.sound standing).1

pub input_now-requires-clause-given : goal.input_now-requires-clause-given
input_now-requires-clause-given c = λ standing. c.input-2.ensures _ (c.in_ok-queue.ensures.sound standing).1
