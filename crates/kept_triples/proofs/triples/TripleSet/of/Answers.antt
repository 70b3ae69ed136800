use Rattle.std.proofs.Common.{◌+◌, ◌∙◌, ◌||◌, ◌∷◌, drop, get_or, sym, ap}
use Rattle.std.proofs.lemmas.List.{drop_more}
use Rattle.defs_soar.specs.Values.{has_triple_among}
use Rattle.kept_triples.proofs.SetLemmas.{HasWithRest, no_triple, one_filled}
use Rattle.kept_triples.proofs.triples.TripleSet.of.Goals as goal

pub triples-preserved : goal.triples-preserved
triples-preserved c =
    let all = c.args.triples.now in
    let i = c.triples.triple-index in
    let old = c.triples.set in
    let triple = get_or all i no_triple in
    let left = drop (i + 1) all in
    let had : HasWithRest old (triple ∷ left) all = λ t. ap (λ l. has_triple_among old t || has_triple_among l t) (sym (drop_more all i no_triple c.triples-test.true)) ∙ c.triples.invariant t in
    one_filled old c.add.new.self left all triple had c.in_ok-add.ensures.has
