use Rattle.cycle_parts.proofs.LawfulLemmas.{lawful_queued}
use Rattle.cycle_parts.proofs.QueueLemmas.{queues}
use Rattle.cycle_parts.proofs.SoundLemmas.{given_known, sound_queued}
use Rattle.cycle_parts.proofs.engine.Engine.queue.Goals as goal

pub returns-clause-step : goal.returns-clause-step
returns-clause-step g c = queues c.args.self.now.parts c.push.new.self (record { adds = c.args.adds; triple = c.args.triple }) c.in_ok-push.ensures.ok

pub returns-clause-sound : goal.returns-clause-sound
returns-clause-sound g c =
    let a = c.args.self.now.parts in
    sound_queued a c.push.new.self (record { adds = c.args.adds; triple = c.args.triple }) c.requires.sound (given_known a c.args.triple c.requires.given) c.in_ok-push.ensures.ok

pub returns-clause-lawful : goal.returns-clause-lawful
returns-clause-lawful g c = lawful_queued c.args.self.now.parts _ c.args.adds c.args.triple c.requires.given c.requires.lawful (returns-clause-step g c)
