use Rattle.std.proofs.Common.{◌∙◌, refl, sym, ap, subst}
use Rattle.level_change.specs.contracts.graph.LevelGraph.{the_view}
use Rattle.level_change.specs.Graph.{level_in_graph, number_at, Stands}
use Rattle.level_change.specs.Links.{id_of, level_place, placed}
use Rattle.level_change.specs.Holds.{Holds}
use Rattle.level_change.proofs.HoldLemmas.{shown, shown_levels, get_number, merged_same, same_graph, kept_as, levels_kept_as, holds_of, stands_of}
use Rattle.level_change.proofs.LinkLemmas.{err_of}
use Rattle.level_change.proofs.graph.LevelGraph.change.Goals as goal

pub returns-in_err-settle_levels-clause-err : goal.returns-in_err-settle_levels-clause-err
returns-in_err-settle_levels-clause-err c = err_of c.from_residual.result (same_graph _ _ (merged_same _ _ _ _ c.settle_levels.ensures.same) refl refl refl refl ∙ c.self.view_is)

pub returns-in_err-settle-clause-err : goal.returns-in_err-settle-clause-err
returns-in_err-settle-clause-err c =
    err_of c.from_residual-in_err-settle.result (same_graph _ _ (merged_same _ _ _ _ c.settle_levels.ensures.same) (merged_same _ _ _ _ c.settle.ensures.same) refl refl refl ∙ c.self.view_is)

pub returns-in_err-settle-2-clause-err : goal.returns-in_err-settle-2-clause-err
returns-in_err-settle-2-clause-err c =
    err_of c.from_residual-in_err-settle-2.result
    (same_graph _ _ (merged_same _ _ _ _ c.settle_levels.ensures.same) (merged_same _ _ _ _ c.settle.ensures.same) (merged_same _ _ _ _ c.settle-2.ensures.same) refl refl ∙ c.self.view_is)

pub returns-in_err-kept-clause-err : goal.returns-in_err-kept-clause-err
returns-in_err-kept-clause-err c =
    err_of _ (same_graph _ _ (merged_same _ _ _ _ c.settle_levels.ensures.same) (merged_same _ _ _ _ c.settle.ensures.same) (merged_same _ _ _ _ c.settle-2.ensures.same) refl refl ∙ c.self.view_is)

pub returns-in_err-moved-clause-err : goal.returns-in_err-moved-clause-err
returns-in_err-moved-clause-err c =
    let bases = c.in_err-moved.ensures.bases in
    let lates = c.in_err-moved.ensures.lates in
    err_of _
    (same_graph _ _ (levels_kept_as c.renew_or_leave.new.told c.settle_levels.new.told bases.0 lates.0 c.in_ok-settle_levels.ensures.ok ∙ merged_same _ _ _ _ c.settle_levels.ensures.same)
    (kept_as c.renew_or_leave.new.out c.settle.new.store bases.1 lates.1 c.in_ok-settle.ensures.ok ∙ merged_same _ _ _ _ c.settle.ensures.same)
    (kept_as c.renew_or_leave.new.into c.settle-2.new.store bases.2 lates.2 c.in_ok-settle-2.ensures.ok ∙ merged_same _ _ _ _ c.settle-2.ensures.same) refl refl ∙ c.self.view_is)

pub returns-clause-ok : goal.returns-clause-ok
returns-clause-ok c = λ held after old_goals changed before.
    let told = c.settle_levels.new.told in
    let out = c.settle.new.store in
    let into = c.settle-2.new.store in
    let settled = same_graph (record { told = shown_levels told; out = shown out; into = shown into; goals = c.self.inside.goals; moved = c.self.inside.moved }) (the_view c.self.inside)
    (merged_same _ _ _ _ c.settle_levels.ensures.same) (merged_same _ _ _ _ c.settle.ensures.same) (merged_same _ _ _ _ c.settle-2.ensures.same) refl refl in
    let stands = subst (λ g. Stands g held old_goals) (sym (settled ∙ c.self.view_is)) before in
    let holds = subst (Holds told out into held) (sym c.as_slice.ensures) (holds_of told out into held old_goals c.self.inside.moved c.self.inside.goals stands) in
    stands_of _ _ _ after c.args.goals.now _ _ c.in_ok-kept.ensures (c.in_ok-moved.ensures.holds held after changed holds)

pub returns-clause-moved : goal.returns-clause-moved
returns-clause-moved c = λ held old_goals before s out.
    get_number _ _ (level_place (id_of s)) ∙ c.in_ok-moved.ensures.moved s out ∙ sym (get_number (placed c.settle_levels.new.told.base.entries) (placed c.settle_levels.new.told.late.entries) (level_place (id_of s)))
    ∙ ap (λ m. number_at m (level_place (id_of s))) (merged_same _ _ _ _ c.settle_levels.ensures.same) ∙ ap (λ g. level_in_graph g s) c.self.view_is
