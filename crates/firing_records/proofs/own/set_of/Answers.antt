use Rattle.firing_records.proofs.OwnLemmas.{one_added}
use Rattle.firing_records.proofs.own.set_of.Goals as goal

pub triples-preserved : goal.triples-preserved
triples-preserved c = λ t. one_added c.args.triples.now c.triples.triple-index c.triples.set c.add.new.self t c.triples-test.true (c.in_ok-add.ensures t) (c.triples.invariant t)
