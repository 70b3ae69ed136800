use Rattle.wave_tests.proofs.DoubtLemmas.{one_alone}
use Rattle.wave_tests.proofs.trimming.add_alone.Goals as goal

pub returns : goal.returns
returns c = one_alone c.args.found.now c.push.new.self c.in_ok-alone.alone c.args.tag c.in_ok-alone.ensures c.in_ok-push.ensures.ok
