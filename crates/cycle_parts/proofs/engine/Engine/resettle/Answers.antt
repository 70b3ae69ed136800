use Rattle.std.proofs.Common.{Err, Ok}
use Rattle.std.proofs.lemmas.Result.{err_from_is_err_and}
use Rattle.decision_parts.proofs.PartsSoundLemmas.{to_settle}
use Rattle.cycle_parts.proofs.SteppingLemmas.{settles_now}
use Rattle.cycle_parts.proofs.engine.Engine.resettle.Goals as goal

pub resettle-requires : goal.resettle-requires
resettle-requires g c = record { sound = to_settle c.args.self.now.parts c.requires.sound }

pub returns-in_err-settled-clause-settled : goal.returns-in_err-settled-clause-settled
returns-in_err-settled-clause-settled g c s stands =
    let p = err_from_is_err_and c.from_residual.result c.from_residual.ensures.1 in
    rw (p.1, p.2) (settles_now c.resettle.new.self s (Err c.in_err-settled.field-0.0) (c.in_err-settled.ensures.resettled s stands))

pub returns-clause-settled : goal.returns-clause-settled
returns-clause-settled g c s stands = settles_now c.resettle.new.self s (Ok c.in_ok-settled.settled) (c.in_ok-settled.ensures.resettled s stands)
