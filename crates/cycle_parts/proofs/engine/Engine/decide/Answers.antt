use Rattle.std.proofs.lemmas.Result.{err_from_is_err_and}
use Rattle.defs_soar.specs.Decision.{decided_by}
use Rattle.cycle_parts.proofs.SteppingLemmas.{stops_alike}
use Rattle.cycle_parts.proofs.LawfulLemmas.{lawful_decided}
use Rattle.cycle_parts.proofs.engine.Engine.decide.Goals as goal

pub returns-in_err-decision-clause-step : goal.returns-in_err-decision-clause-step
returns-in_err-decision-clause-step g c s stands =
    let a = c.args.self.now.parts in
    let p = err_from_is_err_and c.from_residual.result c.from_residual.ensures.1 in
    rw (p.1, p.2)
    (stops_alike a.settings.watch c.args.mid_line.now c.decide.new.mid_line (decided_by s) c.decide.new.parts c.args.out.now c.decide.new.out c.in_err-decision.field-0.0 (c.in_err-decision.ensures.step s stands))

pub returns-clause-step : goal.returns-clause-step
returns-clause-step g c s stands = c.in_ok-decision.ensures.step s stands

pub returns-clause-lawful : goal.returns-clause-lawful
returns-clause-lawful g c =
    lawful_decided c.args.self.now.parts c.decide.new.parts c.requires.lawful (λ s stands. (c.in_ok-decision.ensures.step s stands).stepped)
