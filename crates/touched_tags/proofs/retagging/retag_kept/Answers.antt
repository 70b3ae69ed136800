use Rattle.std.proofs.Common.{List, subst}
use Rattle.defs_soar.specs.declared.goal.Goal.{Goal}
use Rattle.soar_settle.specs.Settles.{Retagged, after_of}
use Rattle.touched_tags.proofs.PlanLemmas.{addable, room, retagged}
use Rattle.touched_tags.proofs.retagging.retag_kept.Goals as goal

pub replace-requires-clause-addable : goal.replace-requires-clause-addable
replace-requires-clause-addable g c =
    addable c.args.table.now c.as_slice-goals.result.now (g.K.KeptSet.triples c.args.kept.now) c.args.memory.now c.in_ok-plan.plan c.in_ok-plan.ensures
    c.as_slice.result.now c.as_slice.ensures

pub replace-requires-clause-room : goal.replace-requires-clause-room
replace-requires-clause-room g c =
    room c.args.table.now c.as_slice-goals.result.now (g.K.KeptSet.triples c.args.kept.now) c.args.memory.now c.in_ok-plan.plan c.in_ok-plan.ensures
    c.as_slice.result.now c.as_slice.ensures c.requires.limit

pub returns : goal.returns
returns g c =
    let words = c.args.table.now in let kept = g.K.KeptSet.triples c.args.kept.now in let m = c.args.memory.now in
    let P : List Goal → Type 0 = λ goals. Retagged (after_of words goals kept m) m c.replace.new.memory c.in_ok-changes.changes in
    subst P c.as_slice-goals.ensures
    (retagged words c.as_slice-goals.result.now kept m c.in_ok-plan.plan c.in_ok-plan.ensures c.as_slice.result.now c.replace.new.memory
    c.in_ok-changes.changes c.as_slice.ensures c.in_ok-changes.ensures.memory c.in_ok-changes.ensures.gone c.in_ok-changes.ensures.new)
