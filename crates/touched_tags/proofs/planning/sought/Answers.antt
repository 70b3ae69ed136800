use Rattle.touched_tags.proofs.SoughtLemmas.{come_are_known, sought}
use Rattle.touched_tags.proofs.planning.sought.Goals as goal

pub in_order-requires : goal.in_order-requires
in_order-requires g c =
    come_are_known c.args.table.now c.args.goals.now (g.K.KeptSet.triples c.args.kept.now) c.args.memory.now.elements c.as_slice.result.now c.in_ok-judged.judged.come c.as_slice-2.result.now
    c.requires.known c.in_ok-judged.ensures.come c.as_slice-2.ensures

pub returns : goal.returns
returns g c =
    sought c.args.table.now c.args.before.now c.args.goals.now (g.K.KeptSet.triples c.args.kept.now) c.args.touched.now c.args.memory.now c.in_ok-looked.looked c.law.ensures.table
    c.law-2.ensures c.in_ok-looked.ensures c.requires.known c.requires.same c.requires.flags c.as_slice.result.now c.in_ok-judged.judged.come c.as_slice-2.result.now
    c.in_ok-triples.triples c.in_ok-judged.judged.gone.entries c.in_ok-going.going c.as_slice.ensures c.in_ok-judged.ensures.gone c.in_ok-going.ensures
    c.in_ok-judged.ensures.come c.as_slice-2.ensures c.in_ok-triples.ensures
