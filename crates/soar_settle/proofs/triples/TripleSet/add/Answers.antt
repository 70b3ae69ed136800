use Rattle.std.proofs.Common.{◌∙◌, ◌||◌, ap}
use Rattle.defs_soar.specs.Values.{has_triple_among, triple_eq}
use Rattle.soar_settle.proofs.KeyLemmas.{added_same}
use Rattle.soar_settle.proofs.triples.TripleSet.add.Goals as goal

pub returns : goal.returns
returns c = λ t.
    added_same c.self.inside.tree.keys c.insert.new.self.keys c.args.triple c.in_ok-insert.ensures.updates.0 t
    ∙ ap (λ l. triple_eq t c.args.triple || has_triple_among l t) c.self.view_is
