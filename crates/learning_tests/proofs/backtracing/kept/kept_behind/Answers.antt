use Rattle.std.proofs.Common.{sym, subst}
use Rattle.chunk_back.specs.Makers.{MakersAreEarlier}
use Rattle.soar_record.specs.Recorded.{recorded}
use Rattle.learning_tests.proofs.KeptLemmas.{earlier_left}
use Rattle.learning_tests.proofs.backtracing.kept.kept_behind.Goals as goal

pub returns : goal.returns
returns c = subst MakersAreEarlier (sym c.in_ok-keep_only.ensures.kept) (earlier_left (recorded c.in_ok-record.record) c.args.roots.now c.in_ok-record.ensures)
