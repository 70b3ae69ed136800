use Rattle.std.proofs.Common.{rules, None, refl}
use Rattle.soar_wm.specs.Shelf.{Puts}
use Rattle.soar_wm.proofs.IndexLemmas.{puts, not_put, put_back}
use Rattle.soar_wm.proofs.index.Index.add.Goals as goal

pub returns-in_err-insert-clause-err : goal.returns-in_err-insert-clause-err
returns-in_err-insert-clause-err c =
    let same : Puts c.args.element None c.args.self.now.triples.entries c.insert.new.self.entries c.args.self.now.ids.entries c.args.self.now.ids.entries
    = not_put _ _ _ _ _ c.requires.triple c.requires.id c.in_err-insert.ensures.err refl in
    search rules

pub returns-in-Ok-clause-ok : goal.returns-in-Ok-clause-ok
returns-in-Ok-clause-ok c = puts _ c.packed-parts.result c.place_of.result _ _ _ _ _ c.packed-parts.ensures c.place_of.ensures c.in_ok-insert.ensures.updates.0 c.in-Ok.ensures.updates.0

pub returns-in-Err-clause-err : goal.returns-in-Err-clause-err
returns-in-Err-clause-err c =
    put_back _ c.packed-parts.result _ _ c.insert.new.self.entries _ _ _ c.packed-parts.ensures c.in_ok-insert.ensures.updates.0 c.remove.ensures.updates.0 c.requires.id c.in-Err.ensures.err
