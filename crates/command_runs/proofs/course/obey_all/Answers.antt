use Rattle.std.proofs.Common.{◌∙◌, None, Ok, false}
use Rattle.command_runs.specs.Following.{status_of_end}
use Rattle.command_runs.specs.declared.ends.Flow.TheVariants as flow
use Rattle.command_runs.specs.Whole.{commands_of, files_of, input_of}
use Rattle.command_runs.proofs.FlowLemmas.{breaks_then, comes_before, over_then}
use Rattle.command_runs.proofs.WholeLemmas.{ends_flow, for_all, for_each, goes_flow, left_alone, left_read, read_next, runs_next, told_itself}
use Rattle.command_runs.proofs.course.obey_all.Goals as goal

pub returns-in-Ok-Goes-clause-flow : goal.returns-in-Ok-Goes-clause-flow
returns-in-Ok-Goes-clause-flow g c =
    for_each (g.I.Source.left c.args.input.now) _ _ (λ bytes tells stock told fails comes r at.
    let on = goes_flow (g.C.Carrier.stands c.obey_files.new.progress.carrier) c.obey_files.new.progress (g.O.Sink.written c.args.out.now) (g.O.Sink.written c.obey_files.new.out) fails (files_of fails stock c.args.names.now r) c.in-Ok-Goes.field-0 c.in-Ok-Goes.field-0-is
    (c.in-Ok-Goes.ensures.flow stock told fails (comes_before fails _ _ c.obey_input.ensures.fetched.later comes) r at) in
    runs_next _ (g.C.Carrier.stands c.obey_input.new.progress.carrier) _ c.obey_input.new.progress _ _ (g.O.Sink.written c.obey_input.new.out) fails (files_of fails stock c.args.names.now r) (input_of fails stock bytes) c.obey_input.result on
    (tells stock (c.in-Ok-Goes.ensures.stock ∙ told) fails comes (files_of fails stock c.args.names.now r).run on.at_run)) c.obey_input.ensures.flow

pub returns-in-Ok-Ends-clause-flow : goal.returns-in-Ok-Ends-clause-flow
returns-in-Ok-Ends-clause-flow g c =
    for_all (g.I.Source.left c.args.input.now) _ (λ bytes stock told fails comes r at.
    over_then _ _ _ (files_of fails stock c.args.names.now r) (input_of fails stock bytes)
    (ends_flow (g.C.Carrier.stands c.obey_files.new.progress.carrier) c.obey_files.new.progress (g.O.Sink.written c.args.out.now) (g.O.Sink.written c.obey_files.new.out) fails (files_of fails stock c.args.names.now r) c.in-Ok-Ends.field-0 c.in-Ok-Ends.end c.in-Ok-Ends.field-0-is
    (c.in-Ok-Ends.ensures.flow stock told fails comes r at)))

pub returns-in-Err-clause-flow : goal.returns-in-Err-clause-flow
returns-in-Err-clause-flow g c =
    for_all (g.I.Source.left c.args.input.now) _ (λ bytes stock told fails comes r at.
    breaks_then c.obey_files.new.progress.fetched (g.O.Sink.written c.args.out.now) (g.O.Sink.written c.obey_files.new.out) fails (files_of fails stock c.args.names.now r) (input_of fails stock bytes) c.in-Err.fault
    (c.in-Err.ensures.flow stock told fails comes r at))

pub returns-in-Ok-Goes-clause-left : goal.returns-in-Ok-Goes-clause-left
returns-in-Ok-Goes-clause-left g c =
    for_each (g.I.Source.left c.args.input.now) _ _ (λ bytes read stock told r at.
    let on = goes_flow (g.C.Carrier.stands c.obey_files.new.progress.carrier) c.obey_files.new.progress (g.O.Sink.written c.args.out.now) (g.O.Sink.written c.obey_files.new.out) None (files_of None stock c.args.names.now r) c.in-Ok-Goes.field-0 c.in-Ok-Goes.field-0-is (c.in-Ok-Goes.ensures.flow stock told None tt r at) in
    left_read (files_of None stock c.args.names.now r) (input_of None stock bytes) (λ taken. commands_of None stock false taken) bytes (g.I.Source.left c.obey_input.new.input) c.obey_input.result on.at_run.goes
    (read stock (c.in-Ok-Goes.ensures.stock ∙ told) (files_of None stock c.args.names.now r).run on.at_run)) c.obey_input.ensures.left

pub returns-in-Ok-Goes-clause-before_read : goal.returns-in-Ok-Goes-clause-before_read
returns-in-Ok-Goes-clause-before_read g c =
    for_each (g.I.Source.left c.args.input.now) _ _ (λ bytes read stock told r at.
    let on = goes_flow (g.C.Carrier.stands c.obey_files.new.progress.carrier) c.obey_files.new.progress (g.O.Sink.written c.args.out.now) (g.O.Sink.written c.obey_files.new.out) None (files_of None stock c.args.names.now r) c.in-Ok-Goes.field-0 c.in-Ok-Goes.field-0-is (c.in-Ok-Goes.ensures.flow stock told None tt r at) in
    read_next (g.C.Carrier.stands c.obey_files.new.progress.carrier) c.obey_files.new.progress (g.O.Sink.written c.args.out.now) (g.O.Sink.written c.obey_files.new.out) (g.O.Sink.written c.obey_input.new.out) (files_of None stock c.args.names.now r) (λ taken. commands_of None stock false taken) bytes (g.I.Source.left c.obey_input.new.input) c.obey_input.result on
    (read stock (c.in-Ok-Goes.ensures.stock ∙ told) (files_of None stock c.args.names.now r).run on.at_run)) c.obey_input.ensures.before_read

pub returns-in-Ok-Ends-clause-left : goal.returns-in-Ok-Ends-clause-left
returns-in-Ok-Ends-clause-left g c =
    told_itself (g.I.Source.left c.args.input.now) _ (λ bytes same stock told r at.
    let over = ends_flow (g.C.Carrier.stands c.obey_files.new.progress.carrier) c.obey_files.new.progress (g.O.Sink.written c.args.out.now) (g.O.Sink.written c.obey_files.new.out) None (files_of None stock c.args.names.now r) c.in-Ok-Ends.field-0 c.in-Ok-Ends.end c.in-Ok-Ends.field-0-is (c.in-Ok-Ends.ensures.flow stock told None tt r at) in
    left_alone (files_of None stock c.args.names.now r) (status_of_end c.in-Ok-Ends.end) _ _ bytes (g.I.Source.left c.args.input.now) (Ok (flow.Ends c.in-Ok-Ends.end)) over.ended same)
