use Rattle.command_runs.proofs.StepLemmas.{command_breaks, command_over, command_steps}
use Rattle.command_runs.proofs.step.obey_command.Goals as goal

pub returns-in-Ok-Some-clause-step : goal.returns-in-Ok-Some-clause-step
returns-in-Ok-Some-clause-step g c = λ stock told fails comes r at.
    command_steps (g.C.Carrier.stands c.carry_out.new.progress.carrier) _ c.carry_out.new.progress _ _ _ _ fails _ stock _ _ _ r c.in-Ok-Some.field-0 c.in-Ok-Some.next _ c.in-Ok-Some.field-0-is (c.in-Ok-Some.ensures.carried fails r at)
    (λ after standing. c.follow.ensures.step stock told fails comes after standing)

pub returns-in-Ok-None-clause-step : goal.returns-in-Ok-None-clause-step
returns-in-Ok-None-clause-step g c = λ stock told fails comes r at.
    command_over (g.C.Carrier.stands c.carry_out.new.progress.carrier) c.carry_out.new.progress _ _ fails _ stock _ _ _ r c.in-Ok-None.field-0 c.in-Ok-None.field-0-is (c.in-Ok-None.ensures.carried fails r at)

pub returns-in-Err-clause-step : goal.returns-in-Err-clause-step
returns-in-Err-clause-step g c = λ stock told fails comes r at. command_breaks _ _ _ fails _ stock _ _ _ r _ (c.in-Err.ensures.carried fails r at)

pub returns-in-Err-clause-shelf : goal.returns-in-Err-clause-shelf
returns-in-Err-clause-shelf g c = c.in-Err.ensures.shelf _
