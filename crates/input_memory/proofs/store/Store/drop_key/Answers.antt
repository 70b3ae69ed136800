use Rattle.std.proofs.Common.{◌∙◌, sym}
use Rattle.input_memory.proofs.StoreLemmas.{dropped, dropped_fewer, all_dropped}
use Rattle.input_memory.proofs.store.Store.drop_key.Goals as goal

pub triples-smaller : goal.triples-smaller
triples-smaller c = dropped_fewer _ _ _ _ c.args.key c.in-Some.number c.triples.invariant.sound c.in-Some.ensures.some c.take.ensures.triples

pub triples-preserved : goal.triples-preserved
triples-preserved c = record {
  sound = c.take.ensures.sound;
  same = dropped _ _ _ _ c.args.key c.in-Some.number c.triples.invariant.sound c.in-Some.ensures.some c.take.ensures.triples ∙ c.triples.invariant.same;
}

pub returns-clause-triples : goal.returns-clause-triples
returns-clause-triples c = sym (all_dropped _ _ _ c.args.key c.triples.invariant.sound c.in_default.ensures.none) ∙ c.triples.invariant.same
