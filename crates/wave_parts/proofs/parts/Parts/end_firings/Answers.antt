use Rattle.wave_parts.proofs.LivingLemmas.{none_live}
use Rattle.wave_parts.proofs.parts.Parts.end_firings.Goals as goal

pub returns : goal.returns
returns c = λ k. record c.args.self.now { prefs = c.leave_goals.new.prefs; live = none_live c.args.self.now.live c.leave_goals.new.self c.leave_goals.ensures.live c.leave_goals.ensures.told k }
