use Rattle.command_runs.proofs.StreamLemmas.{fed_told}
use Rattle.command_runs.proofs.stream.obey_stream.Goals as goal

pub returns-in-Ok-clause-flow : goal.returns-in-Ok-clause-flow
returns-in-Ok-clause-flow g c = λ stock told fails comes r at.
    fed_told (g.C.Carrier.stands c.args.progress.now.carrier) (g.C.Carrier.stands c.obey_fed.new.progress.carrier) c.args.progress.now c.obey_fed.new.progress (g.O.Sink.written c.args.out.now) (g.O.Sink.written c.obey_fed.new.out) fails stock c.args.depth c.args.source.now c.in-Ok.cutter c.obey_fed.new.cutter c.args.bytes.now c.obey_fed.result
    c.in-Ok.ensures.closed c.in-Ok.ensures.cuts (λ s standing. c.obey_fed.ensures.flow stock told fails comes s standing) r at
