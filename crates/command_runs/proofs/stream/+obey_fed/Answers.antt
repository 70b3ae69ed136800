use Rattle.std.proofs.Common.{◌∙◌, ◌-◌, Ok, Err}
use Rattle.soar_edge.specs.Cuts.{cuts_with}
use Rattle.command_runs.specs.declared.ends.Step.TheVariants as step
use Rattle.command_runs.proofs.FlowLemmas.{comes_before, fetched_then, memory_breaks}
use Rattle.command_runs.proofs.StreamLemmas.{fed_told, file_breaks, file_ends, file_goes, file_told, flow_ready, follows_too, rest_of, taken_off, took_so, turn_breaks, turn_ends, turn_goes, turn_last, turn_opens, turn_ready}
use Rattle.command_runs.proofs.stream.+obey_fed.Goals as goal

pub returns-in-Ok-Last-clause-flow : goal.returns-in-Ok-Last-clause-flow
returns-in-Ok-Last-clause-flow g t c = λ stock told fails comes r at ends more follows.
    let b = c.commands.invariant.behind stock told fails (comes_before fails _ _ c.in-Ok-Last.ensures.fetched.later comes) r at ends more follows in
    turn_last (g.C.Carrier.stands c.commands.progress.carrier) (g.C.Carrier.stands c.next_turn.new.progress.carrier) c.commands.progress c.next_turn.new.progress (g.O.Sink.written c.args.out.now) (g.O.Sink.written c.commands.out) (g.O.Sink.written c.next_turn.new.out) fails stock c.args.depth c.args.source.now c.commands.cutter.closed c.args.cutter.now.closed (cuts_with c.commands.cutter ends more) (cuts_with c.next_turn.new.cutter ends more) (rest_of fails stock c.args.depth c.args.source.now (cuts_with c.args.cutter.now ends more) r) c.in-Ok-Last.field-0 c.in-Ok-Last.flow c.commands.invariant.closed c.in-Ok-Last.field-0-is b
    (λ s standing. c.in-Ok-Last.ensures.turn stock (c.commands.invariant.stock ∙ told) fails comes s standing ends more (follows_too _ _ ends more c.commands.invariant.closed follows))

pub commands-preserved-in-Ok-Took-Goes : goal.commands-preserved-in-Ok-Took-Goes
commands-preserved-in-Ok-Took-Goes g t c = record {
  closed = c.in-Ok-Took-Goes.ensures.closed ∙ c.commands.invariant.closed;
  fed = c.in-Ok-Took-Goes.ensures.fed ∙ c.commands.invariant.fed;
  ready = turn_ready _ c.in-Ok-Took-Goes.field-0 (took_so c.in-Ok-Took-Goes.field-0 c.in-Ok-Took-Goes.field-0-0 step.Goes c.in-Ok-Took-Goes.field-0-is c.in-Ok-Took-Goes.field-0-0-is) c.in-Ok-Took-Goes.ensures.ready;
  shelf = c.in-Ok-Took-Goes.ensures.shelf ∙ c.commands.invariant.shelf;
  sink = c.in-Ok-Took-Goes.ensures.sink ∙ c.commands.invariant.sink;
  stock = c.in-Ok-Took-Goes.ensures.stock ∙ c.commands.invariant.stock;
  fetched = fetched_then _ _ _ _ _ _ c.commands.invariant.fetched c.in-Ok-Took-Goes.ensures.fetched;
  behind = λ stock told fails comes r at ends more follows.
      let b = c.commands.invariant.behind stock told fails (comes_before fails _ _ c.in-Ok-Took-Goes.ensures.fetched.later comes) r at ends more follows in
      turn_goes (g.C.Carrier.stands c.commands.progress.carrier) (g.C.Carrier.stands c.next_turn.new.progress.carrier) c.commands.progress c.next_turn.new.progress (g.O.Sink.written c.args.out.now) (g.O.Sink.written c.commands.out) (g.O.Sink.written c.next_turn.new.out) fails stock c.args.depth c.args.source.now c.commands.cutter.closed (cuts_with c.commands.cutter ends more) (cuts_with c.next_turn.new.cutter ends more) (rest_of fails stock c.args.depth c.args.source.now (cuts_with c.args.cutter.now ends more) r) c.in-Ok-Took-Goes.field-0 (took_so c.in-Ok-Took-Goes.field-0 c.in-Ok-Took-Goes.field-0-0 step.Goes c.in-Ok-Took-Goes.field-0-is c.in-Ok-Took-Goes.field-0-0-is)
      (taken_off c.commands.cutter c.next_turn.new.cutter c.in-Ok-Took-Goes.field-0 step.Goes ends more (took_so c.in-Ok-Took-Goes.field-0 c.in-Ok-Took-Goes.field-0-0 step.Goes c.in-Ok-Took-Goes.field-0-is c.in-Ok-Took-Goes.field-0-0-is) c.in-Ok-Took-Goes.ensures.takes (follows_too _ _ ends more c.commands.invariant.closed follows)) b
      (λ s standing. c.in-Ok-Took-Goes.ensures.turn stock (c.commands.invariant.stock ∙ told) fails comes s standing ends more (follows_too _ _ ends more c.commands.invariant.closed follows));
}

pub returns-in-Ok-Took-Ends-clause-flow : goal.returns-in-Ok-Took-Ends-clause-flow
returns-in-Ok-Took-Ends-clause-flow g t c = λ stock told fails comes r at ends more follows.
    let b = c.commands.invariant.behind stock told fails (comes_before fails _ _ c.in-Ok-Took-Ends.ensures.fetched.later comes) r at ends more follows in
    turn_ends (g.C.Carrier.stands c.commands.progress.carrier) (g.C.Carrier.stands c.next_turn.new.progress.carrier) c.commands.progress c.next_turn.new.progress (g.O.Sink.written c.args.out.now) (g.O.Sink.written c.commands.out) (g.O.Sink.written c.next_turn.new.out) fails stock c.args.depth c.args.source.now c.commands.cutter.closed (cuts_with c.commands.cutter ends more) (cuts_with c.next_turn.new.cutter ends more) (rest_of fails stock c.args.depth c.args.source.now (cuts_with c.args.cutter.now ends more) r) c.in-Ok-Took-Ends.field-0 c.in-Ok-Took-Ends.end (took_so c.in-Ok-Took-Ends.field-0 c.in-Ok-Took-Ends.field-0-0 (step.Ends c.in-Ok-Took-Ends.end) c.in-Ok-Took-Ends.field-0-is c.in-Ok-Took-Ends.field-0-0-is)
    (taken_off c.commands.cutter c.next_turn.new.cutter c.in-Ok-Took-Ends.field-0 (step.Ends c.in-Ok-Took-Ends.end) ends more (took_so c.in-Ok-Took-Ends.field-0 c.in-Ok-Took-Ends.field-0-0 (step.Ends c.in-Ok-Took-Ends.end) c.in-Ok-Took-Ends.field-0-is c.in-Ok-Took-Ends.field-0-0-is) c.in-Ok-Took-Ends.ensures.takes (follows_too _ _ ends more c.commands.invariant.closed follows)) b
    (λ s standing. c.in-Ok-Took-Ends.ensures.turn stock (c.commands.invariant.stock ∙ told) fails comes s standing ends more (follows_too _ _ ends more c.commands.invariant.closed follows))

pub returns-in-Err-fed_cutter-clause-flow : goal.returns-in-Err-fed_cutter-clause-flow
returns-in-Err-fed_cutter-clause-flow g t c = λ stock told fails comes r at ends more follows.
    let b = c.commands.invariant.behind stock told fails (comes_before fails _ _ c.in-Ok-Took-Opens.ensures.fetched.later comes) r at ends more follows in
    let opened = turn_opens (g.C.Carrier.stands c.commands.progress.carrier) (g.C.Carrier.stands c.next_turn.new.progress.carrier) c.commands.progress c.next_turn.new.progress (g.O.Sink.written c.args.out.now) (g.O.Sink.written c.commands.out) (g.O.Sink.written c.next_turn.new.out) fails stock c.args.depth c.args.source.now c.commands.cutter.closed (cuts_with c.commands.cutter ends more) (cuts_with c.next_turn.new.cutter ends more) (rest_of fails stock c.args.depth c.args.source.now (cuts_with c.args.cutter.now ends more) r) c.in-Ok-Took-Opens.field-0 c.in-Ok-Took-Opens.file (took_so c.in-Ok-Took-Opens.field-0 c.in-Ok-Took-Opens.field-0-0 (step.Opens c.in-Ok-Took-Opens.file) c.in-Ok-Took-Opens.field-0-is c.in-Ok-Took-Opens.field-0-0-is)
    (taken_off c.commands.cutter c.next_turn.new.cutter c.in-Ok-Took-Opens.field-0 (step.Opens c.in-Ok-Took-Opens.file) ends more (took_so c.in-Ok-Took-Opens.field-0 c.in-Ok-Took-Opens.field-0-0 (step.Opens c.in-Ok-Took-Opens.file) c.in-Ok-Took-Opens.field-0-is c.in-Ok-Took-Opens.field-0-0-is) c.in-Ok-Took-Opens.ensures.takes (follows_too _ _ ends more c.commands.invariant.closed follows)) b (λ s standing. c.in-Ok-Took-Opens.ensures.turn stock (c.commands.invariant.stock ∙ told) fails comes s standing ends more (follows_too _ _ ends more c.commands.invariant.closed follows)) in
    memory_breaks (g.C.Carrier.stands c.next_turn.new.progress.carrier) c.next_turn.new.progress c.next_turn.new.progress.fetched (g.O.Sink.written c.args.out.now) (g.O.Sink.written c.next_turn.new.out) fails _ (rest_of fails stock c.args.depth c.args.source.now (cuts_with c.args.cutter.now ends more) r) opened

pub returns-in-Ok-Ends-clause-flow : goal.returns-in-Ok-Ends-clause-flow
returns-in-Ok-Ends-clause-flow g t c = λ stock told fails comes r at ends more follows.
    let mid = comes_before fails _ _ c.in-Ok-Ends.ensures.fetched.later comes in
    let b = c.commands.invariant.behind stock told fails (comes_before fails _ _ c.in-Ok-Took-Opens.ensures.fetched.later mid) r at ends more follows in
    let opened = turn_opens (g.C.Carrier.stands c.commands.progress.carrier) (g.C.Carrier.stands c.next_turn.new.progress.carrier) c.commands.progress c.next_turn.new.progress (g.O.Sink.written c.args.out.now) (g.O.Sink.written c.commands.out) (g.O.Sink.written c.next_turn.new.out) fails stock c.args.depth c.args.source.now c.commands.cutter.closed (cuts_with c.commands.cutter ends more) (cuts_with c.next_turn.new.cutter ends more) (rest_of fails stock c.args.depth c.args.source.now (cuts_with c.args.cutter.now ends more) r) c.in-Ok-Took-Opens.field-0 c.in-Ok-Took-Opens.file (took_so c.in-Ok-Took-Opens.field-0 c.in-Ok-Took-Opens.field-0-0 (step.Opens c.in-Ok-Took-Opens.file) c.in-Ok-Took-Opens.field-0-is c.in-Ok-Took-Opens.field-0-0-is)
    (taken_off c.commands.cutter c.next_turn.new.cutter c.in-Ok-Took-Opens.field-0 (step.Opens c.in-Ok-Took-Opens.file) ends more (took_so c.in-Ok-Took-Opens.field-0 c.in-Ok-Took-Opens.field-0-0 (step.Opens c.in-Ok-Took-Opens.file) c.in-Ok-Took-Opens.field-0-is c.in-Ok-Took-Opens.field-0-0-is) c.in-Ok-Took-Opens.ensures.takes (follows_too _ _ ends more c.commands.invariant.closed follows)) b (λ s standing. c.in-Ok-Took-Opens.ensures.turn stock (c.commands.invariant.stock ∙ told) fails mid s standing ends more (follows_too _ _ ends more c.commands.invariant.closed follows)) in
    file_ends (g.C.Carrier.stands c.next_turn.new.progress.carrier) (g.C.Carrier.stands c.obey_fed.new.progress.carrier) c.next_turn.new.progress c.obey_fed.new.progress (g.O.Sink.written c.args.out.now) (g.O.Sink.written c.next_turn.new.out) (g.O.Sink.written c.obey_fed.new.out) fails stock (c.args.depth - 1) c.in-Ok-Took-Opens.file.name c.in-Ok-Took-Opens.file.bytes (rest_of fails stock c.args.depth c.args.source.now (cuts_with c.next_turn.new.cutter ends more)) (rest_of fails stock c.args.depth c.args.source.now (cuts_with c.args.cutter.now ends more) r) c.in-Ok-Ends.field-0 c.in-Ok-Ends.end c.in-Ok-Ends.field-0-is opened
    (file_told (g.C.Carrier.stands c.next_turn.new.progress.carrier) (g.C.Carrier.stands c.obey_fed.new.progress.carrier) c.next_turn.new.progress c.obey_fed.new.progress (g.O.Sink.written c.next_turn.new.out) (g.O.Sink.written c.obey_fed.new.out) fails stock (c.args.depth - 1) _ _ _ _ (Ok c.in-Ok-Ends.field-0) c.as_str.ensures c.as_slice.ensures
    (fed_told (g.C.Carrier.stands c.next_turn.new.progress.carrier) (g.C.Carrier.stands c.obey_fed.new.progress.carrier) c.next_turn.new.progress c.obey_fed.new.progress (g.O.Sink.written c.next_turn.new.out) (g.O.Sink.written c.obey_fed.new.out) fails stock (c.args.depth - 1) _ c.in-Ok.inside c.obey_fed.new.cutter _ (Ok c.in-Ok-Ends.field-0) c.in-Ok.ensures.closed c.in-Ok.ensures.cuts
    (λ s standing. c.in-Ok-Ends.ensures.flow stock (c.in-Ok-Took-Opens.ensures.stock ∙ c.commands.invariant.stock ∙ told) fails comes s standing)))

pub returns-in-Err-obey_fed-clause-flow : goal.returns-in-Err-obey_fed-clause-flow
returns-in-Err-obey_fed-clause-flow g t c = λ stock told fails comes r at ends more follows.
    let mid = comes_before fails _ _ c.in-Err-obey_fed.ensures.fetched.later comes in
    let b = c.commands.invariant.behind stock told fails (comes_before fails _ _ c.in-Ok-Took-Opens.ensures.fetched.later mid) r at ends more follows in
    let opened = turn_opens (g.C.Carrier.stands c.commands.progress.carrier) (g.C.Carrier.stands c.next_turn.new.progress.carrier) c.commands.progress c.next_turn.new.progress (g.O.Sink.written c.args.out.now) (g.O.Sink.written c.commands.out) (g.O.Sink.written c.next_turn.new.out) fails stock c.args.depth c.args.source.now c.commands.cutter.closed (cuts_with c.commands.cutter ends more) (cuts_with c.next_turn.new.cutter ends more) (rest_of fails stock c.args.depth c.args.source.now (cuts_with c.args.cutter.now ends more) r) c.in-Ok-Took-Opens.field-0 c.in-Ok-Took-Opens.file (took_so c.in-Ok-Took-Opens.field-0 c.in-Ok-Took-Opens.field-0-0 (step.Opens c.in-Ok-Took-Opens.file) c.in-Ok-Took-Opens.field-0-is c.in-Ok-Took-Opens.field-0-0-is)
    (taken_off c.commands.cutter c.next_turn.new.cutter c.in-Ok-Took-Opens.field-0 (step.Opens c.in-Ok-Took-Opens.file) ends more (took_so c.in-Ok-Took-Opens.field-0 c.in-Ok-Took-Opens.field-0-0 (step.Opens c.in-Ok-Took-Opens.file) c.in-Ok-Took-Opens.field-0-is c.in-Ok-Took-Opens.field-0-0-is) c.in-Ok-Took-Opens.ensures.takes (follows_too _ _ ends more c.commands.invariant.closed follows)) b (λ s standing. c.in-Ok-Took-Opens.ensures.turn stock (c.commands.invariant.stock ∙ told) fails mid s standing ends more (follows_too _ _ ends more c.commands.invariant.closed follows)) in
    file_breaks (g.C.Carrier.stands c.next_turn.new.progress.carrier) (g.C.Carrier.stands c.obey_fed.new.progress.carrier) c.next_turn.new.progress c.obey_fed.new.progress (g.O.Sink.written c.args.out.now) (g.O.Sink.written c.next_turn.new.out) (g.O.Sink.written c.obey_fed.new.out) fails stock (c.args.depth - 1) c.in-Ok-Took-Opens.file.name c.in-Ok-Took-Opens.file.bytes (rest_of fails stock c.args.depth c.args.source.now (cuts_with c.next_turn.new.cutter ends more)) (rest_of fails stock c.args.depth c.args.source.now (cuts_with c.args.cutter.now ends more) r) c.in-Err-obey_fed.fault opened
    (file_told (g.C.Carrier.stands c.next_turn.new.progress.carrier) (g.C.Carrier.stands c.obey_fed.new.progress.carrier) c.next_turn.new.progress c.obey_fed.new.progress (g.O.Sink.written c.next_turn.new.out) (g.O.Sink.written c.obey_fed.new.out) fails stock (c.args.depth - 1) _ _ _ _ (Err c.in-Err-obey_fed.fault) c.as_str.ensures c.as_slice.ensures
    (fed_told (g.C.Carrier.stands c.next_turn.new.progress.carrier) (g.C.Carrier.stands c.obey_fed.new.progress.carrier) c.next_turn.new.progress c.obey_fed.new.progress (g.O.Sink.written c.next_turn.new.out) (g.O.Sink.written c.obey_fed.new.out) fails stock (c.args.depth - 1) _ c.in-Ok.inside c.obey_fed.new.cutter _ (Err c.in-Err-obey_fed.fault) c.in-Ok.ensures.closed c.in-Ok.ensures.cuts
    (λ s standing. c.in-Err-obey_fed.ensures.flow stock (c.in-Ok-Took-Opens.ensures.stock ∙ c.commands.invariant.stock ∙ told) fails comes s standing)))

pub commands-preserved : goal.commands-preserved
commands-preserved g t c = record {
  closed = c.in-Ok-Took-Opens.ensures.closed ∙ c.commands.invariant.closed;
  fed = c.in-Ok-Took-Opens.ensures.fed ∙ c.commands.invariant.fed;
  ready = flow_ready _ c.in-Ok-Goes.field-0 c.in-Ok-Goes.field-0-is c.in-Ok-Goes.ensures.ready;
  shelf = c.in-Ok-Goes.ensures.shelf ∙ c.in-Ok-Took-Opens.ensures.shelf ∙ c.commands.invariant.shelf;
  sink = c.in-Ok-Goes.ensures.sink ∙ c.in-Ok-Took-Opens.ensures.sink ∙ c.commands.invariant.sink;
  stock = c.in-Ok-Goes.ensures.stock ∙ c.in-Ok-Took-Opens.ensures.stock ∙ c.commands.invariant.stock;
  fetched = fetched_then _ _ _ _ _ _ (fetched_then _ _ _ _ _ _ c.commands.invariant.fetched c.in-Ok-Took-Opens.ensures.fetched) c.in-Ok-Goes.ensures.fetched;
  behind = λ stock told fails comes r at ends more follows.
      let mid = comes_before fails _ _ c.in-Ok-Goes.ensures.fetched.later comes in
      let b = c.commands.invariant.behind stock told fails (comes_before fails _ _ c.in-Ok-Took-Opens.ensures.fetched.later mid) r at ends more follows in
      let opened = turn_opens (g.C.Carrier.stands c.commands.progress.carrier) (g.C.Carrier.stands c.next_turn.new.progress.carrier) c.commands.progress c.next_turn.new.progress (g.O.Sink.written c.args.out.now) (g.O.Sink.written c.commands.out) (g.O.Sink.written c.next_turn.new.out) fails stock c.args.depth c.args.source.now c.commands.cutter.closed (cuts_with c.commands.cutter ends more) (cuts_with c.next_turn.new.cutter ends more) (rest_of fails stock c.args.depth c.args.source.now (cuts_with c.args.cutter.now ends more) r) c.in-Ok-Took-Opens.field-0 c.in-Ok-Took-Opens.file (took_so c.in-Ok-Took-Opens.field-0 c.in-Ok-Took-Opens.field-0-0 (step.Opens c.in-Ok-Took-Opens.file) c.in-Ok-Took-Opens.field-0-is c.in-Ok-Took-Opens.field-0-0-is)
      (taken_off c.commands.cutter c.next_turn.new.cutter c.in-Ok-Took-Opens.field-0 (step.Opens c.in-Ok-Took-Opens.file) ends more (took_so c.in-Ok-Took-Opens.field-0 c.in-Ok-Took-Opens.field-0-0 (step.Opens c.in-Ok-Took-Opens.file) c.in-Ok-Took-Opens.field-0-is c.in-Ok-Took-Opens.field-0-0-is) c.in-Ok-Took-Opens.ensures.takes (follows_too _ _ ends more c.commands.invariant.closed follows)) b (λ s standing. c.in-Ok-Took-Opens.ensures.turn stock (c.commands.invariant.stock ∙ told) fails mid s standing ends more (follows_too _ _ ends more c.commands.invariant.closed follows)) in
      file_goes (g.C.Carrier.stands c.next_turn.new.progress.carrier) (g.C.Carrier.stands c.obey_fed.new.progress.carrier) c.next_turn.new.progress c.obey_fed.new.progress (g.O.Sink.written c.args.out.now) (g.O.Sink.written c.next_turn.new.out) (g.O.Sink.written c.obey_fed.new.out) fails stock (c.args.depth - 1) c.in-Ok-Took-Opens.file.name c.in-Ok-Took-Opens.file.bytes (rest_of fails stock c.args.depth c.args.source.now (cuts_with c.next_turn.new.cutter ends more)) (rest_of fails stock c.args.depth c.args.source.now (cuts_with c.args.cutter.now ends more) r) c.in-Ok-Goes.field-0 c.in-Ok-Goes.field-0-is opened
      (file_told (g.C.Carrier.stands c.next_turn.new.progress.carrier) (g.C.Carrier.stands c.obey_fed.new.progress.carrier) c.next_turn.new.progress c.obey_fed.new.progress (g.O.Sink.written c.next_turn.new.out) (g.O.Sink.written c.obey_fed.new.out) fails stock (c.args.depth - 1) _ _ _ _ (Ok c.in-Ok-Goes.field-0) c.as_str.ensures c.as_slice.ensures
      (fed_told (g.C.Carrier.stands c.next_turn.new.progress.carrier) (g.C.Carrier.stands c.obey_fed.new.progress.carrier) c.next_turn.new.progress c.obey_fed.new.progress (g.O.Sink.written c.next_turn.new.out) (g.O.Sink.written c.obey_fed.new.out) fails stock (c.args.depth - 1) _ c.in-Ok.inside c.obey_fed.new.cutter _ (Ok c.in-Ok-Goes.field-0) c.in-Ok.ensures.closed c.in-Ok.ensures.cuts
      (λ s standing. c.in-Ok-Goes.ensures.flow stock (c.in-Ok-Took-Opens.ensures.stock ∙ c.commands.invariant.stock ∙ told) fails comes s standing)));
}

pub returns-in-Err-clause-flow : goal.returns-in-Err-clause-flow
returns-in-Err-clause-flow g t c = λ stock told fails comes r at ends more follows.
    let b = c.commands.invariant.behind stock told fails (comes_before fails _ _ c.in-Err.ensures.fetched.later comes) r at ends more follows in
    turn_breaks (g.C.Carrier.stands c.commands.progress.carrier) (g.C.Carrier.stands c.next_turn.new.progress.carrier) c.commands.progress c.next_turn.new.progress (g.O.Sink.written c.args.out.now) (g.O.Sink.written c.commands.out) (g.O.Sink.written c.next_turn.new.out) fails stock c.args.depth c.args.source.now c.commands.cutter.closed (cuts_with c.commands.cutter ends more) (cuts_with c.next_turn.new.cutter ends more) (rest_of fails stock c.args.depth c.args.source.now (cuts_with c.args.cutter.now ends more) r) c.in-Err.fault b
    (λ s standing. c.in-Err.ensures.turn stock (c.commands.invariant.stock ∙ told) fails comes s standing ends more (follows_too _ _ ends more c.commands.invariant.closed follows))
