use Rattle.input_queue.proofs.ChangeLemmas.{known_changed}
use Rattle.input_queue.proofs.CoverLemmas.{covers_changed}
use Rattle.input_queue.proofs.changes.make_changes.Goals as goal

pub returns-clause-known : goal.returns-clause-known
returns-clause-known c = λ words known more. known_changed words _ c.args.queue.now _ c.in_ok-make_all.ensures known more

pub returns-clause-covers : goal.returns-clause-covers
returns-clause-covers c = covers_changed _ c.args.queue.now _ c.in_ok-make_all.ensures
