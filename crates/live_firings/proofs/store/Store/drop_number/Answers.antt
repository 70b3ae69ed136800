use Rattle.std.proofs.Common.{◌∙◌, sym, arith}
use Rattle.live_firings.proofs.DropLemmas.{number_dropped, number_fewer, number_gone}
use Rattle.live_firings.proofs.store.Store.drop_number.Goals as goal

pub rows-smaller : goal.rows-smaller
rows-smaller c = number_fewer _ _ _ _ _ c.args.number c.in-Some.place c.rows.invariant.sound c.in-Some.ensures.some c.take.ensures.rows

pub rows-preserved : goal.rows-preserved
rows-preserved c = record {
  sound = c.take.ensures.sound;
  room = c.take.ensures.room;
  told = c.take.ensures.told ∙ c.rows.invariant.told;
  same = number_dropped _ _ _ _ _ c.args.number c.in-Some.place c.rows.invariant.sound c.in-Some.ensures.some c.take.ensures.rows ∙ c.rows.invariant.same;
}

pub returns-clause-rows : goal.returns-clause-rows
returns-clause-rows c = sym (number_gone _ _ _ _ c.args.number c.rows.invariant.sound (λ n small. c.in_default.ensures.none n (omega (arith, small)))) ∙ c.rows.invariant.same
