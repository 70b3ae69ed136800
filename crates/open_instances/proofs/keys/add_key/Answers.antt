use Rattle.open_instances.proofs.NotedLemmas.{added}
use Rattle.open_instances.proofs.keys.add_key.Goals as goal

pub returns : goal.returns
returns c = added c.args.keys.now c.insert.new.self c.args.key c.in_ok-insert.ensures.updates.0
