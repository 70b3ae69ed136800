use Rattle.defs_soar.specs.Explanation.{firing_of}
use Rattle.soar_record.specs.Recorded.{recorded}
use Rattle.learning_tests.proofs.KeptLemmas.{none_there}
use Rattle.learning_tests.proofs.backtracing.kept.is_new.Goals as goal

pub returns-in-None : goal.returns-in-None
returns-in-None c = λ _. none_there (firing_of (recorded c.args.kept.now) c.args.number) c.in-None.ensures
