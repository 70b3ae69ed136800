use Rattle.soar_settle.proofs.KnownLemmas.{known_at}
use Rattle.soar_settle.proofs.tagging.merging.add_before.Goals as goal

pub compare-requires-clause-second : goal.compare-requires-clause-second
compare-requires-clause-second c = known_at c.args.table.now c.args.triples.now c.triples.at c.triples-test.true c.requires.all
