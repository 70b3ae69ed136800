use Rattle.cycle_parts.proofs.LawfulLemmas.{lawful_random}
use Rattle.cycle_parts.proofs.QueueLemmas.{more_random}
use Rattle.cycle_parts.proofs.engine.Engine.random.Goals as goal

pub returns-clause-step : goal.returns-clause-step
returns-clause-step g c = more_random c.args.self.now.parts c.extend_from_slice.new.self c.args.words.now c.in_ok-extend_from_slice.ensures.ok

pub returns-clause-lawful : goal.returns-clause-lawful
returns-clause-lawful g c = lawful_random c.args.self.now.parts _ c.args.words.now c.requires.lawful (returns-clause-step g c)
