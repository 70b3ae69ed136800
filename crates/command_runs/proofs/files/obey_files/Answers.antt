use Rattle.std.proofs.Common.{arith, ◌+◌, ◌∷◌, ap, drop, sym, ◌∙◌}
use Rattle.std.proofs.lemmas.List.{drop_all, drop_more}
use Rattle.std.proofs.lemmas.Grind.{common_steps}
use Rattle.command_runs.specs.Following.{status_of_end}
use Rattle.command_runs.specs.Whole.{file_of, files_of}
use Rattle.command_runs.proofs.FileLemmas.{next_file, no_file_left}
use Rattle.command_runs.proofs.FlowLemmas.{breaks_off, comes_before, ends_behind, fetched_then, goes_behind}
use Rattle.command_runs.proofs.WholeLemmas.{ends_flow, flow_goes_ready, goes_flow}
use Rattle.command_runs.proofs.files.obey_files.Goals as goal

pub returns-in-Ok-Ends-clause-flow : goal.returns-in-Ok-Ends-clause-flow
returns-in-Ok-Ends-clause-flow g c = λ stock told fails comes r at.
    let b = next_file (g.C.Carrier.stands c.names.progress.carrier) c.names.progress (g.O.Sink.written c.args.out.now) (g.O.Sink.written c.names.out) fails stock (drop c.names.name-index c.args.names.now) c.name-item.result (drop (c.names.name-index + 1) c.args.names.now) (files_of fails stock c.args.names.now r)
    (drop_more c.args.names.now c.names.name-index c.name-item.result c.names-test.true ∙ ap (λ x. x ∷ drop (c.names.name-index + 1) c.args.names.now) (sym c.name-item.is))
    (c.names.invariant.behind stock told fails (comes_before fails _ _ c.in-Ok-Ends.ensures.fetched.later comes) r at) in
    ends_behind (g.C.Carrier.stands c.names.progress.carrier) c.names.progress (g.O.Sink.written c.args.out.now) (g.O.Sink.written c.names.out) (g.O.Sink.written c.obey_file.new.out) (status_of_end c.in-Ok-Ends.end) (file_of fails stock c.name-item.result) (files_of fails stock (drop (c.names.name-index + 1) c.args.names.now)) (files_of fails stock c.args.names.now r) b
    (ends_flow (g.C.Carrier.stands c.obey_file.new.progress.carrier) c.obey_file.new.progress (g.O.Sink.written c.names.out) (g.O.Sink.written c.obey_file.new.out) fails (file_of fails stock c.name-item.result b.run) c.in-Ok-Ends.field-0 c.in-Ok-Ends.end c.in-Ok-Ends.field-0-is (c.in-Ok-Ends.ensures.flow stock (c.names.invariant.stock ∙ told) fails comes b.run b.at_run))

pub returns-in-Err-clause-flow : goal.returns-in-Err-clause-flow
returns-in-Err-clause-flow g c = λ stock told fails comes r at.
    let b = next_file (g.C.Carrier.stands c.names.progress.carrier) c.names.progress (g.O.Sink.written c.args.out.now) (g.O.Sink.written c.names.out) fails stock (drop c.names.name-index c.args.names.now) c.name-item.result (drop (c.names.name-index + 1) c.args.names.now) (files_of fails stock c.args.names.now r)
    (drop_more c.args.names.now c.names.name-index c.name-item.result c.names-test.true ∙ ap (λ x. x ∷ drop (c.names.name-index + 1) c.args.names.now) (sym c.name-item.is))
    (c.names.invariant.behind stock told fails (comes_before fails _ _ c.in-Err.ensures.fetched.later comes) r at) in
    breaks_off (g.C.Carrier.stands c.names.progress.carrier) c.names.progress c.obey_file.new.progress.fetched (g.O.Sink.written c.args.out.now) (g.O.Sink.written c.names.out) (g.O.Sink.written c.obey_file.new.out) fails (file_of fails stock c.name-item.result) (files_of fails stock (drop (c.names.name-index + 1) c.args.names.now)) (files_of fails stock c.args.names.now r) c.in-Err.fault b
    (c.in-Err.ensures.flow stock (c.names.invariant.stock ∙ told) fails comes b.run b.at_run)

pub names-preserved : goal.names-preserved
names-preserved g c = record {
  ready = flow_goes_ready _ c.in-Ok-Goes.field-0 c.in-Ok-Goes.field-0-is c.in-Ok-Goes.ensures.ready;
  shelf = c.in-Ok-Goes.ensures.shelf ∙ c.names.invariant.shelf;
  sink = c.in-Ok-Goes.ensures.sink ∙ c.names.invariant.sink;
  stock = c.in-Ok-Goes.ensures.stock ∙ c.names.invariant.stock;
  fetched = fetched_then _ _ _ _ _ _ c.names.invariant.fetched c.in-Ok-Goes.ensures.fetched;
  behind = λ stock told fails comes r at.
      let b = next_file (g.C.Carrier.stands c.names.progress.carrier) c.names.progress (g.O.Sink.written c.args.out.now) (g.O.Sink.written c.names.out) fails stock (drop c.names.name-index c.args.names.now) c.name-item.result (drop (c.names.name-index + 1) c.args.names.now) (files_of fails stock c.args.names.now r)
      (drop_more c.args.names.now c.names.name-index c.name-item.result c.names-test.true ∙ ap (λ x. x ∷ drop (c.names.name-index + 1) c.args.names.now) (sym c.name-item.is))
      (c.names.invariant.behind stock told fails (comes_before fails _ _ c.in-Ok-Goes.ensures.fetched.later comes) r at) in
      goes_behind (g.C.Carrier.stands c.names.progress.carrier) (g.C.Carrier.stands c.obey_file.new.progress.carrier) c.names.progress c.obey_file.new.progress (g.O.Sink.written c.args.out.now) (g.O.Sink.written c.names.out) (g.O.Sink.written c.obey_file.new.out) (file_of fails stock c.name-item.result) (files_of fails stock (drop (c.names.name-index + 1) c.args.names.now)) (files_of fails stock c.args.names.now r) b
      (goes_flow (g.C.Carrier.stands c.obey_file.new.progress.carrier) c.obey_file.new.progress (g.O.Sink.written c.names.out) (g.O.Sink.written c.obey_file.new.out) fails (file_of fails stock c.name-item.result b.run) c.in-Ok-Goes.field-0 c.in-Ok-Goes.field-0-is (c.in-Ok-Goes.ensures.flow stock (c.names.invariant.stock ∙ told) fails comes b.run b.at_run));
}

pub returns-clause-flow : goal.returns-clause-flow
returns-clause-flow g c = λ stock told fails comes r at.
    no_file_left (g.C.Carrier.stands c.names.progress.carrier) c.names.progress (g.O.Sink.written c.args.out.now) (g.O.Sink.written c.names.out) fails stock (drop c.names.name-index c.args.names.now) (files_of fails stock c.args.names.now r) (drop_all c.names.name-index c.args.names.now (grind (arith, common_steps))) (c.names.invariant.behind stock told fails comes r at)
