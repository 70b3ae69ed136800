use Rattle.std.proofs.Common.{Ok}
use Rattle.command_runs.specs.Following.{Breaks, Flows, RunsWhole}
use Rattle.command_runs.proofs.WholeLemmas.{by_files, by_script, for_all, for_each, left_none_asked, read_along, read_none_asked}
use Rattle.command_runs.proofs.course.obey_whole.Goals as goal

pub returns-in-Ok-clause-flow : goal.returns-in-Ok-clause-flow
returns-in-Ok-clause-flow g c =
    for_all (g.I.Source.left c.args.input.now) _ (λ bytes stock told fails comes r at.
    by_script (λ x. Flows (g.C.Carrier.stands c.obey_script.new.progress.carrier) c.obey_script.new.progress (g.O.Sink.written c.args.out.now) (g.O.Sink.written c.obey_script.new.out) fails x (Ok c.in-Ok.flow)) fails stock bytes c.args.generate c.in-Some.items c.args.names.now r
    c.in-Some.is (c.in-Ok.ensures.flow stock told fails comes r at))

pub returns-in-Err-clause-flow : goal.returns-in-Err-clause-flow
returns-in-Err-clause-flow g c =
    for_all (g.I.Source.left c.args.input.now) _ (λ bytes stock told fails comes r at.
    by_script (λ x. Breaks c.obey_script.new.progress.fetched (g.O.Sink.written c.args.out.now) (g.O.Sink.written c.obey_script.new.out) fails x c.in-Err.fault) fails stock bytes c.args.generate c.in-Some.items c.args.names.now r
    c.in-Some.is (c.in-Err.ensures.flow stock told fails comes r at))

pub returns-in-None-clause-flow : goal.returns-in-None-clause-flow
returns-in-None-clause-flow g c =
    for_each (g.I.Source.left c.args.input.now) _ _ (λ bytes tells stock told fails comes r at.
    by_files (λ x. RunsWhole (g.C.Carrier.stands c.obey_all.new.progress.carrier) c.obey_all.new.progress (g.O.Sink.written c.args.out.now) (g.O.Sink.written c.obey_all.new.out) fails x c.obey_all.result) fails stock bytes
    c.args.generate c.args.names.now r c.in-None.is (tells stock told fails comes r at)) c.obey_all.ensures.flow

pub returns-in-None-clause-left : goal.returns-in-None-clause-left
returns-in-None-clause-left g c =
    for_each (g.I.Source.left c.args.input.now) _ _ (λ bytes tells stock told r at.
    left_none_asked stock bytes c.args.generate c.args.names.now r (g.I.Source.left c.obey_all.new.input) c.obey_all.result c.in-None.is (tells stock told r at)) c.obey_all.ensures.left

pub returns-in-None-clause-before_read : goal.returns-in-None-clause-before_read
returns-in-None-clause-before_read g c =
    for_each (g.I.Source.left c.args.input.now) _ _ (λ bytes tells stock told r at.
    read_none_asked c.args.generate (g.O.Sink.written c.args.out.now) (g.O.Sink.written c.obey_all.new.out) bytes (g.I.Source.left c.obey_all.new.input) (read_along stock c.args.names.now r) c.obey_all.result c.in-None.is (tells stock told r at)) c.obey_all.ensures.before_read
