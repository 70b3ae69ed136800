use Rattle.std.proofs.Common.{false, refl}
use Rattle.command_runs.proofs.ClauseLemmas.{answers_told, complete_told, fetch_told, headline_told, long_told, once_told, prefix_told, read_told}
use Rattle.command_runs.proofs.whole.run_whole.Goals as goal

pub returns-clause-headline : goal.returns-clause-headline
returns-clause-headline g c =
    headline_told (g.C.Carrier.stands c.args.carrier) (g.C.Carrier.stands c.obey_whole-flow.new.progress.carrier) (record { carrier = c.args.carrier; refused = false; fetched = 0 }) c.obey_whole-flow.new.progress (g.O.Sink.written c.args.out.now) (g.O.Sink.written c.obey_whole-flow.new.out) (g.F.Shelf.files c.args.files.now) (g.I.Source.left c.args.input.now) c.args.generate c.args.names.now c.obey_whole-flow.result c.status_of-status.result
    (record { source = g.I.Source.faults c.args.input.now; shelf = g.F.Shelf.faults c.args.files.now; sink = g.O.Sink.faults c.args.out.now }) (record { source = g.I.Source.faults c.obey_whole-flow.new.input; shelf = g.F.Shelf.faults c.obey_whole-flow.new.files; sink = g.O.Sink.faults c.obey_whole-flow.new.out })
    refl refl c.status_of-status.ensures (c.requires.source, c.requires.shelf, c.requires.sink) c.obey_whole-flow.ensures.cause c.obey_whole-flow.ensures.flow

pub returns-clause-answers : goal.returns-clause-answers
returns-clause-answers g c =
    answers_told (g.C.Carrier.stands c.args.carrier) (g.C.Carrier.stands c.obey_whole-flow.new.progress.carrier) (record { carrier = c.args.carrier; refused = false; fetched = 0 }) c.obey_whole-flow.new.progress (g.O.Sink.written c.args.out.now) (g.O.Sink.written c.obey_whole-flow.new.out) (g.F.Shelf.files c.args.files.now) (g.I.Source.left c.args.input.now) c.args.generate c.args.names.now c.obey_whole-flow.result c.status_of-status.result
    (g.I.Source.left c.obey_whole-flow.new.input)
    (record { source = g.I.Source.faults c.args.input.now; shelf = g.F.Shelf.faults c.args.files.now; sink = g.O.Sink.faults c.args.out.now }) (record { source = g.I.Source.faults c.obey_whole-flow.new.input; shelf = g.F.Shelf.faults c.obey_whole-flow.new.files; sink = g.O.Sink.faults c.obey_whole-flow.new.out })
    refl refl c.status_of-status.ensures c.obey_whole-flow.ensures.cause c.obey_whole-flow.ensures.flow c.obey_whole-flow.ensures.left

pub returns-clause-prefix : goal.returns-clause-prefix
returns-clause-prefix g c =
    prefix_told (g.C.Carrier.stands c.args.carrier) (g.C.Carrier.stands c.obey_whole-flow.new.progress.carrier) (record { carrier = c.args.carrier; refused = false; fetched = 0 }) c.obey_whole-flow.new.progress (g.O.Sink.written c.args.out.now) (g.O.Sink.written c.obey_whole-flow.new.out) (g.F.Shelf.files c.args.files.now) (g.I.Source.left c.args.input.now) c.args.generate c.args.names.now c.obey_whole-flow.result c.status_of-status.result
    refl refl c.status_of-status.ensures c.obey_whole-flow.ensures.flow

pub returns-clause-before_fetch : goal.returns-clause-before_fetch
returns-clause-before_fetch g c =
    fetch_told (g.C.Carrier.stands c.args.carrier) (g.C.Carrier.stands c.obey_whole-flow.new.progress.carrier) (record { carrier = c.args.carrier; refused = false; fetched = 0 }) c.obey_whole-flow.new.progress (g.O.Sink.written c.args.out.now) (g.O.Sink.written c.obey_whole-flow.new.out) (g.F.Shelf.files c.args.files.now) (g.I.Source.left c.args.input.now) c.args.generate c.args.names.now c.obey_whole-flow.result c.status_of-status.result
    (g.F.Shelf.fetched c.args.files.now) (g.F.Shelf.fetched c.obey_whole-flow.new.files) refl refl c.status_of-status.ensures c.obey_whole-flow.ensures.fetched c.obey_whole-flow.ensures.flow

pub returns-clause-before_read : goal.returns-clause-before_read
returns-clause-before_read g c =
    read_told (g.C.Carrier.stands c.args.carrier) (record { carrier = c.args.carrier; refused = false; fetched = 0 }) c.obey_whole-flow.new.progress (g.O.Sink.written c.args.out.now) (g.O.Sink.written c.obey_whole-flow.new.out) (g.F.Shelf.files c.args.files.now) (g.I.Source.left c.args.input.now) c.args.generate c.args.names.now c.obey_whole-flow.result c.status_of-status.result
    (g.I.Source.left c.obey_whole-flow.new.input) refl refl c.status_of-status.ensures c.obey_whole-flow.ensures.before_read

pub returns-clause-too_long : goal.returns-clause-too_long
returns-clause-too_long g c =
    long_told (g.C.Carrier.stands c.args.carrier) (g.C.Carrier.stands c.obey_whole-flow.new.progress.carrier) (record { carrier = c.args.carrier; refused = false; fetched = 0 }) c.obey_whole-flow.new.progress (g.O.Sink.written c.args.out.now) (g.O.Sink.written c.obey_whole-flow.new.out) (g.F.Shelf.files c.args.files.now) (g.I.Source.left c.args.input.now) c.args.generate c.args.names.now c.obey_whole-flow.result c.status_of-status.result
    refl refl c.status_of-status.ensures c.obey_whole-flow.ensures.flow

pub returns-clause-complete : goal.returns-clause-complete
returns-clause-complete g c =
    complete_told (g.C.Carrier.stands c.args.carrier) (g.C.Carrier.stands c.obey_whole-flow.new.progress.carrier) (record { carrier = c.args.carrier; refused = false; fetched = 0 }) c.obey_whole-flow.new.progress (g.O.Sink.written c.args.out.now) (g.O.Sink.written c.obey_whole-flow.new.out) (g.F.Shelf.files c.args.files.now) (g.I.Source.left c.args.input.now) c.args.generate c.args.names.now c.obey_whole-flow.result c.status_of-status.result
    (record { source = g.I.Source.faults c.args.input.now; shelf = g.F.Shelf.faults c.args.files.now; sink = g.O.Sink.faults c.args.out.now }) (record { source = g.I.Source.faults c.obey_whole-flow.new.input; shelf = g.F.Shelf.faults c.obey_whole-flow.new.files; sink = g.O.Sink.faults c.obey_whole-flow.new.out })
    refl refl c.status_of-status.ensures (c.requires.source, c.requires.shelf, c.requires.sink) c.obey_whole-flow.ensures.cause c.obey_whole-flow.ensures.flow

pub returns-clause-once : goal.returns-clause-once
returns-clause-once g c =
    once_told c.obey_whole-flow.result
    (record { source = g.I.Source.faults c.args.input.now; shelf = g.F.Shelf.faults c.args.files.now; sink = g.O.Sink.faults c.args.out.now }) (record { source = g.I.Source.faults c.obey_whole-flow.new.input; shelf = g.F.Shelf.faults c.obey_whole-flow.new.files; sink = g.O.Sink.faults c.obey_whole-flow.new.out })
    c.obey_whole-flow.ensures.cause
