use Rattle.std.proofs.Common.{◌∙◌, None, Ok, Err, refl, ap, arith}
use Rattle.command_runs.specs.Reading.{is_end}
use Rattle.command_runs.proofs.FlowLemmas.{comes_before, fetched_then, none_fetched}
use Rattle.command_runs.proofs.ReadingLemmas.{at_first_byte, bytes_go, first_place, follows_read, input_ends, input_goes, input_long, input_off, input_some, left_ended, left_none, new_waits, next_place, read_behind, read_failed, read_stops, reads_of, waits_so}
use Rattle.command_runs.proofs.StreamLemmas.{flow_ready}
use Rattle.command_runs.proofs.WholeLemmas.{for_all, for_both, for_each, told_itself}
use Rattle.command_runs.proofs.input.obey_input.Goals as goal

pub reading-init : goal.reading-init
reading-init g c = record {
  unclosed = c.in-Ok.ensures.closed;
  count = c.in-Ok.ensures.fed;
  few = omega arith;
  waits = new_waits c.in-Ok.cutter c.in-Ok.ensures;
  ready = c.requires.ready;
  source = refl;
  shelf = refl;
  sink = refl;
  stock = refl;
  fetched = none_fetched _ _;
  place = told_itself (g.I.Source.left c.args.input.now) _ (λ all same. first_place (g.I.Source.left c.args.input.now) all same);
  behind = for_all (g.I.Source.left c.args.input.now) _ (λ all stock told fails comes r at. at_first_byte (g.C.Carrier.stands c.args.progress.now.carrier) c.args.progress.now (g.O.Sink.written c.args.out.now) fails stock c.in-Ok.cutter all r c.in-Ok.ensures at);
}

pub returns-in-Err-Failed-clause-flow : goal.returns-in-Err-Failed-clause-flow
returns-in-Err-Failed-clause-flow g c =
    for_each (g.I.Source.left c.args.input.now) _ _ (λ all b stock told fails comes r at. input_some (g.C.Carrier.stands c.reading.progress.carrier) c.reading.progress (g.O.Sink.written c.args.out.now) (g.O.Sink.written c.reading.out) fails stock c.reading.cutter c.reading.taken all r c.reading.invariant.few (b stock told fails comes r at)) c.reading.invariant.behind

pub returns-in-Err-Failed-clause-before_read : goal.returns-in-Err-Failed-clause-before_read
returns-in-Err-Failed-clause-before_read g c =
    for_both (g.I.Source.left c.args.input.now) _ _ _ (λ all place b stock told r at. (
      refl,
      read_stops (g.C.Carrier.stands c.reading.progress.carrier) c.reading.progress (g.O.Sink.written c.args.out.now) (g.O.Sink.written c.reading.out) stock c.reading.cutter c.reading.taken all (g.I.Source.left c.feed_more.new.input) r c.reading.invariant.few c.reading.invariant.waits (b stock told None tt r at)
          (read_failed all (g.I.Source.left c.feed_more.new.input) c.reading.cutter c.feed_more.new.cutter c.reading.taken c.feed_more.new.taken c.in-Err-Failed.field-0 c.in-Err-Failed.field-0-is (reads_of all (g.I.Source.left c.reading.input) (g.I.Source.left c.feed_more.new.input) c.reading.cutter c.feed_more.new.cutter c.reading.taken c.feed_more.new.taken (Err c.in-Err-Failed.field-0) place c.in-Err-Failed.ensures.bytes)),
    )) c.reading.invariant.place c.reading.invariant.behind

pub returns-in-Err-NoMemory-clause-flow : goal.returns-in-Err-NoMemory-clause-flow
returns-in-Err-NoMemory-clause-flow g c =
    for_each (g.I.Source.left c.args.input.now) _ _ (λ all b stock told fails comes r at. input_some (g.C.Carrier.stands c.reading.progress.carrier) c.reading.progress (g.O.Sink.written c.args.out.now) (g.O.Sink.written c.reading.out) fails stock c.reading.cutter c.reading.taken all r c.reading.invariant.few (b stock told fails comes r at)) c.reading.invariant.behind

pub reading-preserved : goal.reading-preserved
reading-preserved g c = record {
  unclosed = c.in-Ok-Goes.ensures.closed ∙ c.in-Ok-feed_more.ensures.closed ∙ ap is_end c.in-Bytes.is;
  count = c.in-Ok-Goes.ensures.fed ∙ c.in-Ok-feed_more.ensures.count;
  few = c.in-Ok-feed_more.ensures.few;
  waits = waits_so _ _ c.in-Ok-Goes.field-0 (c.in-Ok-feed_more.ensures.closed ∙ ap is_end c.in-Bytes.is) c.in-Ok-Goes.field-0-is c.in-Ok-Goes.ensures.waits;
  ready = flow_ready _ c.in-Ok-Goes.field-0 c.in-Ok-Goes.field-0-is c.in-Ok-Goes.ensures.ready;
  source = c.in-Ok-feed_more.ensures.cause.cause ∙ c.reading.invariant.source;
  shelf = c.in-Ok-Goes.ensures.shelf ∙ c.reading.invariant.shelf;
  sink = c.in-Ok-Goes.ensures.sink ∙ c.reading.invariant.sink;
  stock = c.in-Ok-Goes.ensures.stock ∙ c.reading.invariant.stock;
  fetched = fetched_then _ _ _ _ _ _ c.reading.invariant.fetched c.in-Ok-Goes.ensures.fetched;
  place = for_each (g.I.Source.left c.args.input.now) _ _ (λ all place. next_place all (g.I.Source.left c.feed_more.new.input) (g.I.Source.left c.reading.input) c.reading.cutter c.feed_more.new.cutter c.reading.taken c.feed_more.new.taken c.in-Ok-feed_more.came c.in-Bytes.is place (reads_of all (g.I.Source.left c.reading.input) (g.I.Source.left c.feed_more.new.input) c.reading.cutter c.feed_more.new.cutter c.reading.taken c.feed_more.new.taken (Ok c.in-Ok-feed_more.came) place c.in-Ok-feed_more.ensures.bytes)) c.reading.invariant.place;
  behind = for_both (g.I.Source.left c.args.input.now) _ _ _ (λ all place b stock told fails comes r at.
      bytes_go (g.C.Carrier.stands c.reading.progress.carrier) (g.C.Carrier.stands c.obey_fed.new.progress.carrier) c.reading.progress c.obey_fed.new.progress (g.O.Sink.written c.args.out.now) (g.O.Sink.written c.reading.out) (g.O.Sink.written c.obey_fed.new.out) fails stock c.feed_more.new.cutter c.obey_fed.new.cutter c.feed_more.new.taken all r c.in-Ok-Goes.field-0 (c.in-Ok-feed_more.ensures.closed ∙ ap is_end c.in-Bytes.is) c.in-Ok-Goes.field-0-is (read_behind (g.C.Carrier.stands c.reading.progress.carrier) c.reading.progress (g.O.Sink.written c.args.out.now) (g.O.Sink.written c.reading.out) fails stock c.reading.cutter c.feed_more.new.cutter c.reading.taken c.feed_more.new.taken all (g.I.Source.left c.feed_more.new.input) r c.in-Ok-feed_more.came (reads_of all (g.I.Source.left c.reading.input) (g.I.Source.left c.feed_more.new.input) c.reading.cutter c.feed_more.new.cutter c.reading.taken c.feed_more.new.taken (Ok c.in-Ok-feed_more.came) place c.in-Ok-feed_more.ensures.bytes) (b stock told fails (comes_before fails _ _ c.in-Ok-Goes.ensures.fetched.later comes) r at)) (c.in-Ok-Goes.ensures.flow stock (c.reading.invariant.stock ∙ told) fails comes)) c.reading.invariant.place c.reading.invariant.behind;
}

pub returns-in-TooMany-clause-flow : goal.returns-in-TooMany-clause-flow
returns-in-TooMany-clause-flow g c =
    for_both (g.I.Source.left c.args.input.now) _ _ _ (λ all place b stock told fails comes r at.
    input_long (g.C.Carrier.stands c.reading.progress.carrier) (g.C.Carrier.stands c.obey_fed.new.progress.carrier) c.reading.progress c.obey_fed.new.progress (g.O.Sink.written c.args.out.now) (g.O.Sink.written c.reading.out) (g.O.Sink.written c.obey_fed.new.out) fails stock c.reading.cutter c.feed_more.new.cutter c.obey_fed.new.cutter c.reading.taken c.feed_more.new.taken all (g.I.Source.left c.reading.input) (g.I.Source.left c.feed_more.new.input) r c.in-Ok-feed_more.came c.in-Ok-Goes.field-0 c.in-TooMany.is c.in-Ok-Goes.field-0-is place (reads_of all (g.I.Source.left c.reading.input) (g.I.Source.left c.feed_more.new.input) c.reading.cutter c.feed_more.new.cutter c.reading.taken c.feed_more.new.taken (Ok c.in-Ok-feed_more.came) place c.in-Ok-feed_more.ensures.bytes) c.in-Ok-feed_more.ensures.closed c.in-Ok-Goes.ensures.waits (read_behind (g.C.Carrier.stands c.reading.progress.carrier) c.reading.progress (g.O.Sink.written c.args.out.now) (g.O.Sink.written c.reading.out) fails stock c.reading.cutter c.feed_more.new.cutter c.reading.taken c.feed_more.new.taken all (g.I.Source.left c.feed_more.new.input) r c.in-Ok-feed_more.came (reads_of all (g.I.Source.left c.reading.input) (g.I.Source.left c.feed_more.new.input) c.reading.cutter c.feed_more.new.cutter c.reading.taken c.feed_more.new.taken (Ok c.in-Ok-feed_more.came) place c.in-Ok-feed_more.ensures.bytes) (b stock told fails (comes_before fails _ _ c.in-Ok-Goes.ensures.fetched.later comes) r at)) (c.in-Ok-Goes.ensures.flow stock (c.reading.invariant.stock ∙ told) fails comes)) c.reading.invariant.place c.reading.invariant.behind

pub returns-in-Nothing-clause-flow : goal.returns-in-Nothing-clause-flow
returns-in-Nothing-clause-flow g c =
    for_both (g.I.Source.left c.args.input.now) _ _ _ (λ all place b stock told fails comes r at.
    input_goes (g.C.Carrier.stands c.reading.progress.carrier) (g.C.Carrier.stands c.obey_fed.new.progress.carrier) c.reading.progress c.obey_fed.new.progress (g.O.Sink.written c.args.out.now) (g.O.Sink.written c.reading.out) (g.O.Sink.written c.obey_fed.new.out) fails stock c.reading.cutter c.feed_more.new.cutter c.obey_fed.new.cutter c.reading.taken c.feed_more.new.taken all (g.I.Source.left c.feed_more.new.input) r c.in-Ok-feed_more.came c.in-Ok-Goes.field-0 c.in-Nothing.is c.in-Ok-Goes.field-0-is c.reading.invariant.few (reads_of all (g.I.Source.left c.reading.input) (g.I.Source.left c.feed_more.new.input) c.reading.cutter c.feed_more.new.cutter c.reading.taken c.feed_more.new.taken (Ok c.in-Ok-feed_more.came) place c.in-Ok-feed_more.ensures.bytes) c.in-Ok-feed_more.ensures.closed (read_behind (g.C.Carrier.stands c.reading.progress.carrier) c.reading.progress (g.O.Sink.written c.args.out.now) (g.O.Sink.written c.reading.out) fails stock c.reading.cutter c.feed_more.new.cutter c.reading.taken c.feed_more.new.taken all (g.I.Source.left c.feed_more.new.input) r c.in-Ok-feed_more.came (reads_of all (g.I.Source.left c.reading.input) (g.I.Source.left c.feed_more.new.input) c.reading.cutter c.feed_more.new.cutter c.reading.taken c.feed_more.new.taken (Ok c.in-Ok-feed_more.came) place c.in-Ok-feed_more.ensures.bytes) (b stock told fails (comes_before fails _ _ c.in-Ok-Goes.ensures.fetched.later comes) r at)) (c.in-Ok-Goes.ensures.flow stock (c.reading.invariant.stock ∙ told) fails comes)) c.reading.invariant.place c.reading.invariant.behind

pub returns-in-Nothing-clause-left : goal.returns-in-Nothing-clause-left
returns-in-Nothing-clause-left g c =
    for_both (g.I.Source.left c.args.input.now) _ _ _ (λ all place b stock told r at.
    left_none (g.C.Carrier.stands c.obey_fed.new.progress.carrier) c.obey_fed.new.progress (g.O.Sink.written c.args.out.now) (g.O.Sink.written c.obey_fed.new.out) stock c.reading.cutter c.feed_more.new.cutter c.reading.taken c.feed_more.new.taken all (g.I.Source.left c.feed_more.new.input) r c.in-Ok-feed_more.came c.in-Nothing.is (reads_of all (g.I.Source.left c.reading.input) (g.I.Source.left c.feed_more.new.input) c.reading.cutter c.feed_more.new.cutter c.reading.taken c.feed_more.new.taken (Ok c.in-Ok-feed_more.came) place c.in-Ok-feed_more.ensures.bytes)
    (input_goes (g.C.Carrier.stands c.reading.progress.carrier) (g.C.Carrier.stands c.obey_fed.new.progress.carrier) c.reading.progress c.obey_fed.new.progress (g.O.Sink.written c.args.out.now) (g.O.Sink.written c.reading.out) (g.O.Sink.written c.obey_fed.new.out) None stock c.reading.cutter c.feed_more.new.cutter c.obey_fed.new.cutter c.reading.taken c.feed_more.new.taken all (g.I.Source.left c.feed_more.new.input) r c.in-Ok-feed_more.came c.in-Ok-Goes.field-0 c.in-Nothing.is c.in-Ok-Goes.field-0-is c.reading.invariant.few (reads_of all (g.I.Source.left c.reading.input) (g.I.Source.left c.feed_more.new.input) c.reading.cutter c.feed_more.new.cutter c.reading.taken c.feed_more.new.taken (Ok c.in-Ok-feed_more.came) place c.in-Ok-feed_more.ensures.bytes) c.in-Ok-feed_more.ensures.closed (read_behind (g.C.Carrier.stands c.reading.progress.carrier) c.reading.progress (g.O.Sink.written c.args.out.now) (g.O.Sink.written c.reading.out) None stock c.reading.cutter c.feed_more.new.cutter c.reading.taken c.feed_more.new.taken all (g.I.Source.left c.feed_more.new.input) r c.in-Ok-feed_more.came (reads_of all (g.I.Source.left c.reading.input) (g.I.Source.left c.feed_more.new.input) c.reading.cutter c.feed_more.new.cutter c.reading.taken c.feed_more.new.taken (Ok c.in-Ok-feed_more.came) place c.in-Ok-feed_more.ensures.bytes) (b stock told None tt r at)) (c.in-Ok-Goes.ensures.flow stock (c.reading.invariant.stock ∙ told) None tt))) c.reading.invariant.place c.reading.invariant.behind

pub returns-in-Ok-Ends-clause-flow : goal.returns-in-Ok-Ends-clause-flow
returns-in-Ok-Ends-clause-flow g c =
    for_both (g.I.Source.left c.args.input.now) _ _ _ (λ all place b stock told fails comes r at.
    input_ends (g.C.Carrier.stands c.reading.progress.carrier) (g.C.Carrier.stands c.obey_fed.new.progress.carrier) c.reading.progress c.obey_fed.new.progress (g.O.Sink.written c.args.out.now) (g.O.Sink.written c.reading.out) (g.O.Sink.written c.obey_fed.new.out) fails stock c.feed_more.new.cutter c.obey_fed.new.cutter c.feed_more.new.taken all r c.in-Ok-Ends.field-0 c.in-Ok-Ends.end c.in-Ok-Ends.field-0-is c.in-Ok-feed_more.ensures.few (follows_read all (g.I.Source.left c.feed_more.new.input) c.reading.cutter c.feed_more.new.cutter c.reading.taken c.feed_more.new.taken c.in-Ok-feed_more.came c.reading.invariant.few (reads_of all (g.I.Source.left c.reading.input) (g.I.Source.left c.feed_more.new.input) c.reading.cutter c.feed_more.new.cutter c.reading.taken c.feed_more.new.taken (Ok c.in-Ok-feed_more.came) place c.in-Ok-feed_more.ensures.bytes) c.in-Ok-feed_more.ensures.closed) (read_behind (g.C.Carrier.stands c.reading.progress.carrier) c.reading.progress (g.O.Sink.written c.args.out.now) (g.O.Sink.written c.reading.out) fails stock c.reading.cutter c.feed_more.new.cutter c.reading.taken c.feed_more.new.taken all (g.I.Source.left c.feed_more.new.input) r c.in-Ok-feed_more.came (reads_of all (g.I.Source.left c.reading.input) (g.I.Source.left c.feed_more.new.input) c.reading.cutter c.feed_more.new.cutter c.reading.taken c.feed_more.new.taken (Ok c.in-Ok-feed_more.came) place c.in-Ok-feed_more.ensures.bytes) (b stock told fails (comes_before fails _ _ c.in-Ok-Ends.ensures.fetched.later comes) r at)) (c.in-Ok-Ends.ensures.flow stock (c.reading.invariant.stock ∙ told) fails comes)) c.reading.invariant.place c.reading.invariant.behind

pub returns-in-Ok-Ends-clause-left : goal.returns-in-Ok-Ends-clause-left
returns-in-Ok-Ends-clause-left g c =
    for_both (g.I.Source.left c.args.input.now) _ _ _ (λ all place b stock told r at.
    left_ended (g.C.Carrier.stands c.reading.progress.carrier) (g.C.Carrier.stands c.obey_fed.new.progress.carrier) c.reading.progress c.obey_fed.new.progress (g.O.Sink.written c.args.out.now) (g.O.Sink.written c.reading.out) (g.O.Sink.written c.obey_fed.new.out) stock c.reading.cutter c.feed_more.new.cutter c.obey_fed.new.cutter c.reading.taken c.feed_more.new.taken all (g.I.Source.left c.feed_more.new.input) r c.in-Ok-feed_more.came c.in-Ok-Ends.field-0 c.in-Ok-Ends.end c.in-Ok-Ends.field-0-is (reads_of all (g.I.Source.left c.reading.input) (g.I.Source.left c.feed_more.new.input) c.reading.cutter c.feed_more.new.cutter c.reading.taken c.feed_more.new.taken (Ok c.in-Ok-feed_more.came) place c.in-Ok-feed_more.ensures.bytes) c.in-Ok-feed_more.ensures.closed (read_behind (g.C.Carrier.stands c.reading.progress.carrier) c.reading.progress (g.O.Sink.written c.args.out.now) (g.O.Sink.written c.reading.out) None stock c.reading.cutter c.feed_more.new.cutter c.reading.taken c.feed_more.new.taken all (g.I.Source.left c.feed_more.new.input) r c.in-Ok-feed_more.came (reads_of all (g.I.Source.left c.reading.input) (g.I.Source.left c.feed_more.new.input) c.reading.cutter c.feed_more.new.cutter c.reading.taken c.feed_more.new.taken (Ok c.in-Ok-feed_more.came) place c.in-Ok-feed_more.ensures.bytes) (b stock told None tt r at)) (c.in-Ok-Ends.ensures.flow stock (c.reading.invariant.stock ∙ told) None tt)
    (input_ends (g.C.Carrier.stands c.reading.progress.carrier) (g.C.Carrier.stands c.obey_fed.new.progress.carrier) c.reading.progress c.obey_fed.new.progress (g.O.Sink.written c.args.out.now) (g.O.Sink.written c.reading.out) (g.O.Sink.written c.obey_fed.new.out) None stock c.feed_more.new.cutter c.obey_fed.new.cutter c.feed_more.new.taken all r c.in-Ok-Ends.field-0 c.in-Ok-Ends.end c.in-Ok-Ends.field-0-is c.in-Ok-feed_more.ensures.few (follows_read all (g.I.Source.left c.feed_more.new.input) c.reading.cutter c.feed_more.new.cutter c.reading.taken c.feed_more.new.taken c.in-Ok-feed_more.came c.reading.invariant.few (reads_of all (g.I.Source.left c.reading.input) (g.I.Source.left c.feed_more.new.input) c.reading.cutter c.feed_more.new.cutter c.reading.taken c.feed_more.new.taken (Ok c.in-Ok-feed_more.came) place c.in-Ok-feed_more.ensures.bytes) c.in-Ok-feed_more.ensures.closed) (read_behind (g.C.Carrier.stands c.reading.progress.carrier) c.reading.progress (g.O.Sink.written c.args.out.now) (g.O.Sink.written c.reading.out) None stock c.reading.cutter c.feed_more.new.cutter c.reading.taken c.feed_more.new.taken all (g.I.Source.left c.feed_more.new.input) r c.in-Ok-feed_more.came (reads_of all (g.I.Source.left c.reading.input) (g.I.Source.left c.feed_more.new.input) c.reading.cutter c.feed_more.new.cutter c.reading.taken c.feed_more.new.taken (Ok c.in-Ok-feed_more.came) place c.in-Ok-feed_more.ensures.bytes) (b stock told None tt r at)) (c.in-Ok-Ends.ensures.flow stock (c.reading.invariant.stock ∙ told) None tt))) c.reading.invariant.place c.reading.invariant.behind

pub returns-in-Err-obey_fed-clause-flow : goal.returns-in-Err-obey_fed-clause-flow
returns-in-Err-obey_fed-clause-flow g c =
    for_both (g.I.Source.left c.args.input.now) _ _ _ (λ all place b stock told fails comes r at.
    input_off (g.C.Carrier.stands c.reading.progress.carrier) (g.C.Carrier.stands c.obey_fed.new.progress.carrier) c.reading.progress c.obey_fed.new.progress (g.O.Sink.written c.args.out.now) (g.O.Sink.written c.reading.out) (g.O.Sink.written c.obey_fed.new.out) fails stock c.feed_more.new.cutter c.obey_fed.new.cutter c.feed_more.new.taken all r c.in-Err-obey_fed.fault c.in-Ok-feed_more.ensures.few (follows_read all (g.I.Source.left c.feed_more.new.input) c.reading.cutter c.feed_more.new.cutter c.reading.taken c.feed_more.new.taken c.in-Ok-feed_more.came c.reading.invariant.few (reads_of all (g.I.Source.left c.reading.input) (g.I.Source.left c.feed_more.new.input) c.reading.cutter c.feed_more.new.cutter c.reading.taken c.feed_more.new.taken (Ok c.in-Ok-feed_more.came) place c.in-Ok-feed_more.ensures.bytes) c.in-Ok-feed_more.ensures.closed) (read_behind (g.C.Carrier.stands c.reading.progress.carrier) c.reading.progress (g.O.Sink.written c.args.out.now) (g.O.Sink.written c.reading.out) fails stock c.reading.cutter c.feed_more.new.cutter c.reading.taken c.feed_more.new.taken all (g.I.Source.left c.feed_more.new.input) r c.in-Ok-feed_more.came (reads_of all (g.I.Source.left c.reading.input) (g.I.Source.left c.feed_more.new.input) c.reading.cutter c.feed_more.new.cutter c.reading.taken c.feed_more.new.taken (Ok c.in-Ok-feed_more.came) place c.in-Ok-feed_more.ensures.bytes) (b stock told fails (comes_before fails _ _ c.in-Err-obey_fed.ensures.fetched.later comes) r at)) (c.in-Err-obey_fed.ensures.flow stock (c.reading.invariant.stock ∙ told) fails comes)) c.reading.invariant.place c.reading.invariant.behind
