use Rattle.std.proofs.Common.{◌∙◌, ◌&&◌, not, ap}
use Rattle.defs_soar.specs.Values.{has_triple_among, triple_eq}
use Rattle.kept_triples.specs.Counts.{how_many}
use Rattle.kept_triples.proofs.KeyLemmas.{removed_same, found_same, removed}
use Rattle.kept_triples.proofs.triples.TripleSet.remove.Goals as goal

pub returns-clause-was : goal.returns-clause-was
returns-clause-was c =
    c.remove.ensures.test
    ∙ found_same c.self.inside.table.keys c.new.result c.args.triple c.new.ensures
    ∙ ap (λ l. has_triple_among l c.args.triple) c.self.view_is

pub returns-clause-has : goal.returns-clause-has
returns-clause-has c = λ t.
    removed_same c.self.inside.table.keys c.remove.new.self.keys c.new.result c.args.triple c.new.ensures c.remove.ensures.updates.0 t
    ∙ ap (λ l. not (triple_eq t c.args.triple) && has_triple_among l t) c.self.view_is

pub returns-clause-once : goal.returns-clause-once
returns-clause-once c = λ p.
    removed p c.self.inside.table.keys c.remove.new.self.keys c.new.result c.args.triple c.remove.result c.new.ensures
    c.remove.ensures.test c.remove.ensures.keys c.remove.ensures.unchanged
    ∙ ap (how_many p) c.self.view_is
