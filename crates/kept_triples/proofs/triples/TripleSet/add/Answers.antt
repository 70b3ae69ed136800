use Rattle.std.proofs.Common.{◌∙◌, ◌||◌, ◌∷◌, cond, not, ap}
use Rattle.defs_soar.specs.Values.{has_triple_among, triple_eq}
use Rattle.kept_triples.specs.Counts.{how_many}
use Rattle.kept_triples.proofs.KeyLemmas.{added_same, found_same, inserted}
use Rattle.kept_triples.proofs.triples.TripleSet.add.Goals as goal

pub returns-clause-new : goal.returns-clause-new
returns-clause-new c =
    let keys = c.self.inside.table.keys in
    let triple = c.args.triple in
    c.in_ok-is_new.ensures.added ∙ ap not (found_same keys c.new.result triple c.new.ensures ∙ ap (λ l. has_triple_among l triple) c.self.view_is)

pub returns-clause-has : goal.returns-clause-has
returns-clause-has c = λ t.
    added_same c.self.inside.table.keys c.insert.new.self.keys c.new.result c.args.triple c.new.ensures c.in_ok-is_new.ensures.updates.0 t
    ∙ ap (λ l. triple_eq t c.args.triple || has_triple_among l t) c.self.view_is

pub returns-clause-once : goal.returns-clause-once
returns-clause-once c = λ p.
    let is_new = c.in_ok-is_new.is_new in
    let triple = c.args.triple in
    inserted p c.self.inside.table.keys c.insert.new.self.keys c.new.result triple is_new c.new.ensures c.in_ok-is_new.ensures.keys
    ∙ ap (λ l. how_many p (cond is_new (triple ∷ l) l)) c.self.view_is
