use Rattle.touched_tags.proofs.SameLemmas.{flags_of, same_after, same_retags}
use Rattle.touched_tags.proofs.retagging.retag_touched.Goals as goal

pub returns-clause-retags : goal.returns-clause-retags
returns-clause-retags g c = λ all same.
    let words = c.args.table.now in let goals = c.args.goals.now in let kept = g.K.KeptSet.triples c.args.kept.now in let m = c.args.memory.now in
    same_retags words goals kept all m c.retag_kept.new.memory c.retag_kept.result
    (same_after words goals kept all m c.law.ensures.table c.requires.known same) c.retag_kept.ensures

pub returns-clause-flags : goal.returns-clause-flags
returns-clause-flags g c =
    flags_of c.args.table.now c.args.goals.now (g.K.KeptSet.triples c.args.kept.now) c.args.memory.now c.retag_kept.new.memory c.retag_kept.result c.retag_kept.ensures
