use Rattle.std.proofs.Common.{◌∙◌, not, ap}
use Rattle.cycle_parts.specs.Waving.{is_proposing}
use Rattle.cycle_parts.proofs.WavingLemmas.{tells_work}
use Rattle.cycle_parts.proofs.engine.Engine.has_work.Goals as goal

pub returns-clause-work : goal.returns-clause-work
returns-clause-work g c =
    tells_work (is_proposing c.args.phase) c.args.self.now.parts _ (ap not (c.is_nothing.ensures ∙ c.in_ok-work.ensures.none))
