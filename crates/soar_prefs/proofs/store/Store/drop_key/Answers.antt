use Rattle.std.proofs.Common.{◌∙◌, sym}
use Rattle.soar_prefs.proofs.StoreLemmas.{dropped, dropped_fewer, all_dropped}
use Rattle.soar_prefs.proofs.store.Store.drop_key.Goals as goal

pub rows-smaller : goal.rows-smaller
rows-smaller c = dropped_fewer _ _ _ _ c.args.key c.in-Some.number c.rows.invariant.sound c.in-Some.ensures.some c.take.ensures.rows

pub rows-preserved : goal.rows-preserved
rows-preserved c = record {
  sound = c.take.ensures.sound;
  room = c.take.ensures.room;
  settled = c.take.ensures.settled ∙ c.rows.invariant.settled;
  same = dropped _ _ _ _ c.args.key c.in-Some.number c.rows.invariant.sound c.in-Some.ensures.some c.take.ensures.rows ∙ c.rows.invariant.same;
}

pub returns-clause-rows : goal.returns-clause-rows
returns-clause-rows c = sym (all_dropped _ _ _ c.args.key c.rows.invariant.sound c.in_default.ensures.none) ∙ c.rows.invariant.same
