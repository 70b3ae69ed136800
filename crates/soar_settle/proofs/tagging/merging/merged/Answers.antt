use Rattle.soar_settle.proofs.KnownLemmas.{known_at}
use Rattle.soar_settle.proofs.tagging.merging.merged.Goals as goal

pub add_before-requires-clause-one : goal.add_before-requires-clause-one
add_before-requires-clause-one c = known_at c.args.table.now c.args.a.now c.triples.triple-index c.triples-test.true c.requires.first
