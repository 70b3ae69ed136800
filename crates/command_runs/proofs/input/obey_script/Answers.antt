use Rattle.std.proofs.Common.{subst, true, arith}
use Rattle.std.proofs.lemmas.Grind.{common_steps}
use Rattle.command_runs.specs.Following.{Flows}
use Rattle.command_runs.specs.Whole.{commands_of}
use Rattle.command_runs.proofs.InputLemmas.{commands_flows}
use Rattle.command_runs.proofs.input.obey_script.Goals as goal

pub returns-in-Ok-clause-flow : goal.returns-in-Ok-clause-flow
returns-in-Ok-clause-flow g c = λ stock told fails comes r at.
    subst (λ bytes. Flows (g.C.Carrier.stands c.obey_stream.new.progress.carrier) c.obey_stream.new.progress (g.O.Sink.written c.args.out.now) (g.O.Sink.written c.obey_stream.new.out) fails (commands_of fails stock true bytes r) c.obey_stream.result) (grind (arith, common_steps))
    (commands_flows (g.C.Carrier.stands c.obey_stream.new.progress.carrier) c.obey_stream.new.progress (g.O.Sink.written c.args.out.now) (g.O.Sink.written c.obey_stream.new.out) fails stock c.as_bytes.result.now r c.obey_stream.result
    (c.obey_stream.ensures.flow stock told fails comes r at))
