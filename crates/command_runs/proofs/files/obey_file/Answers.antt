use Rattle.std.proofs.Common.{◌∙◌, subst}
use Rattle.command_runs.specs.Following.{Breaks, Flows, IsOn, IsOver, status_of_end}
use Rattle.command_runs.specs.Whole.{file_of}
use Rattle.command_runs.proofs.FileLemmas.{file_breaks_so, file_ends_so, file_goes_so, file_opens_so}
use Rattle.command_runs.proofs.FlowLemmas.{comes_before}
use Rattle.command_runs.proofs.StreamLemmas.{file_told}
use Rattle.command_runs.proofs.files.obey_file.Goals as goal

pub returns-in-Ok-Goes-clause-flow : goal.returns-in-Ok-Goes-clause-flow
returns-in-Ok-Goes-clause-flow g c = λ stock told fails comes r at.
    subst (λ n. IsOn (g.C.Carrier.stands c.open_file.new.progress.carrier) c.open_file.new.progress (g.O.Sink.written c.args.out.now) (g.O.Sink.written c.open_file.new.out) (file_of fails stock n r)) (c.in-Ok.ensures ∙ c.as_str.ensures)
    (file_goes_so (g.C.Carrier.stands c.open_file.new.progress.carrier) c.open_file.new.progress (g.O.Sink.written c.args.out.now) (g.O.Sink.written c.open_file.new.out) fails stock c.in-Ok.name r c.in-Ok-Goes.field-0 c.in-Ok-Goes.field-0-is
    (c.in-Ok-Goes.ensures.step stock told fails comes r at))

pub returns-in-Ok-Ends-clause-flow : goal.returns-in-Ok-Ends-clause-flow
returns-in-Ok-Ends-clause-flow g c = λ stock told fails comes r at.
    subst (λ n. IsOver (g.O.Sink.written c.args.out.now) (g.O.Sink.written c.open_file.new.out) (status_of_end c.in-Ok-Ends.end) (file_of fails stock n r)) (c.in-Ok.ensures ∙ c.as_str.ensures)
    (file_ends_so (g.C.Carrier.stands c.open_file.new.progress.carrier) c.open_file.new.progress (g.O.Sink.written c.args.out.now) (g.O.Sink.written c.open_file.new.out) fails stock c.in-Ok.name r c.in-Ok-Ends.field-0 c.in-Ok-Ends.end c.in-Ok-Ends.field-0-is
    (c.in-Ok-Ends.ensures.step stock told fails comes r at))

pub returns-in-Err-open_file-clause-flow : goal.returns-in-Err-open_file-clause-flow
returns-in-Err-open_file-clause-flow g c = λ stock told fails comes r at.
    subst (λ n. Breaks c.open_file.new.progress.fetched (g.O.Sink.written c.args.out.now) (g.O.Sink.written c.open_file.new.out) fails (file_of fails stock n r) c.in-Err-open_file.fault) (c.in-Ok.ensures ∙ c.as_str.ensures)
    (file_breaks_so c.open_file.new.progress.fetched (g.O.Sink.written c.args.out.now) (g.O.Sink.written c.open_file.new.out) fails stock c.in-Ok.name r c.in-Err-open_file.fault
    (c.in-Err-open_file.ensures.step stock told fails comes r at))

pub returns-in-Ok-Opens-clause-flow : goal.returns-in-Ok-Opens-clause-flow
returns-in-Ok-Opens-clause-flow g c = λ stock told fails comes r at.
    subst (λ n. Flows (g.C.Carrier.stands c.obey_stream.new.progress.carrier) c.obey_stream.new.progress (g.O.Sink.written c.args.out.now) (g.O.Sink.written c.obey_stream.new.out) fails (file_of fails stock n r) c.obey_stream.result) (c.in-Ok.ensures ∙ c.as_str.ensures)
    (file_opens_so (g.C.Carrier.stands c.open_file.new.progress.carrier) (g.C.Carrier.stands c.obey_stream.new.progress.carrier) c.open_file.new.progress c.obey_stream.new.progress (g.O.Sink.written c.args.out.now) (g.O.Sink.written c.open_file.new.out) (g.O.Sink.written c.obey_stream.new.out) fails stock c.in-Ok.name r c.in-Ok-Opens.field-0 c.in-Ok-Opens.file c.obey_stream.result c.in-Ok-Opens.field-0-is
    (c.in-Ok-Opens.ensures.step stock told fails (comes_before fails _ _ c.obey_stream.ensures.fetched.later comes) r at)
    (file_told (g.C.Carrier.stands c.open_file.new.progress.carrier) (g.C.Carrier.stands c.obey_stream.new.progress.carrier) c.open_file.new.progress c.obey_stream.new.progress (g.O.Sink.written c.open_file.new.out) (g.O.Sink.written c.obey_stream.new.out) fails stock 15 _ _ _ _ c.obey_stream.result c.as_str-in-Ok-Opens.ensures c.as_slice.ensures
    (λ run standing. c.obey_stream.ensures.flow stock (c.in-Ok-Opens.ensures.stock ∙ told) fails comes run standing)))
