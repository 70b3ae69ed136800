use Rattle.command_runs.proofs.StepLemmas.{follows_so}
use Rattle.command_runs.proofs.step.follow.Goals as goal

pub returns-in-File-clause-step : goal.returns-in-File-clause-step
returns-in-File-clause-step g c = λ stock told fails comes r at. follows_so _ _ _ _ fails _ stock _ _ c.args.next _ r _ c.in-File.is (c.open_file.ensures.step stock told fails comes r at)
