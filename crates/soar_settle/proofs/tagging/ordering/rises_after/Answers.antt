use Rattle.std.proofs.Common.{◌∙◌, ap, sym, is_lt}
use Rattle.soar_settle.proofs.KnownLemmas.{known_at}
use Rattle.soar_settle.proofs.TripleOrderLemmas.{rises_more}
use Rattle.soar_settle.proofs.tagging.ordering.rises_after.Goals as goal

pub compare-requires-clause-second : goal.compare-requires-clause-second
compare-requires-clause-second c = known_at c.args.table.now c.args.triples.now c.triples.triple-index c.triples-test.true c.requires.rest

pub triples-preserved : goal.triples-preserved
triples-preserved c =
    let words = c.args.table.now in let triples = c.args.triples.now in let at = c.triples.triple-index in record {
      known = known_at words triples at c.triples-test.true c.requires.rest;
      same =
          rises_more words c.triples.last triples at c.triples-test.true
          (sym (ap is_lt c.compare.ensures) ∙ sym c.is_lt.ensures ∙ c.if-not-is_lt.false)
          ∙ c.triples.invariant.same;
    }
