use Rattle.cycle_parts.proofs.LawfulLemmas.{lawful_set}
use Rattle.cycle_parts.proofs.engine.Engine.set.Goals as goal

pub returns-clause-lawful : goal.returns-clause-lawful
returns-clause-lawful g c = lawful_set c.args.self.now.parts c.args.settings c.requires.lawful
