use Rattle.std.proofs.lemmas.Result.{on_ok_weaker}
use Rattle.open_instances.proofs.KeptLemmas.{told_fits}
use Rattle.open_instances.proofs.telling.told.Goals as goal

pub returns-clause-fits : goal.returns-clause-fits
returns-clause-fits c = on_ok_weaker c.add_keys.result (λ grown. told_fits c.args.kept.now c.add_keys.new.keys c.args.keys grown) c.add_keys.ensures
