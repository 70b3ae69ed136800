use Rattle.std.proofs.Common.{◌∙◌, ap}
use Rattle.defs_soar.specs.Values.{has_triple_among}
use Rattle.kept_triples.proofs.KeyLemmas.{found_same}
use Rattle.kept_triples.proofs.triples.TripleSet.has.Goals as goal

pub returns : goal.returns
returns c = c.contains.ensures ∙ found_same _ _ c.args.triple c.new.ensures ∙ ap (λ l. has_triple_among l c.args.triple) c.self.view_is
