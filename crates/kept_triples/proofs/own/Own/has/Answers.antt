use Rattle.std.proofs.Common.{◌∙◌, ap, sym}
use Rattle.defs_soar.specs.Values.{has_triple_among}
use Rattle.kept_triples.proofs.OwnLemmas.{absent, marked_is}
use Rattle.kept_triples.proofs.own.Own.has.Goals as goal

pub returns-else-not-triple : goal.returns-else-not-triple
returns-else-not-triple c =
    let triple = c.args.triple in
    let marked = c.if-not-triple.false in
    marked
    ∙ sym (absent c.self.inside.all c.self.invariant.1 triple (marked_is triple.accept marked))
    ∙ ap (λ own. has_triple_among own.triples triple) c.self.view_is
