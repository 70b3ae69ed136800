use Rattle.std.proofs.Common.{◌∙◌, ◌+◌, drop, sym, ap}
use Rattle.defs_soar.specs.Uses.{selection_told}
use Rattle.firing_records.proofs.SelectionLemmas.{or_told, told_at}
use Rattle.firing_records.proofs.ways.selection_told.Goals as goal

pub returns-in-Some : goal.returns-in-Some
returns-in-Some c =
    let goals = c.args.goals.now in
    let e = c.args.element.now in
    let i = c.goals.goal-index in
    sym (sym c.goals.invariant ∙ told_at goals i c.goal-item.result e c.goals-test.true c.goal-item.is
    ∙ ap (λ o. or_told o (selection_told (drop (i + 1) goals) e)) (sym c.told_by.ensures ∙ c.in-Some.is))

pub goals-preserved : goal.goals-preserved
goals-preserved c =
    let goals = c.args.goals.now in
    let e = c.args.element.now in
    let i = c.goals.goal-index in
    sym (told_at goals i c.goal-item.result e c.goals-test.true c.goal-item.is ∙ ap (λ o. or_told o (selection_told (drop (i + 1) goals) e)) (sym c.told_by.ensures ∙ c.in_default.is))
    ∙ c.goals.invariant
