use Rattle.std.proofs.Common.{◌≡◌, ◌∙◌, ap, sym, subst}
use Rattle.std.proofs.lemmas.Result.{on_ok_weaker}
use Rattle.defs_soar.specs.Goals.{goal_ids}
use Rattle.defs_soar.specs.Values.{has_triple_among}
use Rattle.settling_laws.specs.Changes.{own_triples}
use Rattle.level_change.specs.Counts.{IsChanged}
use Rattle.level_change.specs.Graph.{Stands}
use Rattle.kept_triples.specs.Kept.{level_in_kept}
use Rattle.kept_triples.proofs.BalanceLemmas.{changed_by}
use Rattle.kept_triples.proofs.HeldLemmas.{held_after}
use Rattle.kept_triples.proofs.kept.Kept.reconsider.Goals as goal

pub returns-clause-holds : goal.returns-clause-holds
returns-clause-holds c = λ goals0 rows0 inputs0 holds covered.
    let goals = c.args.goals.now in
    let old = c.self.inside.held in
    let new = c.look_at_all.new.held in
    let own : c.self.inside.own.triples ≡ own_triples goals = ap (λ k. k.own) c.self.view_is ∙ c.requires.own.own in
    let ids : c.ids.result.now ≡ goal_ids goals = c.ids.ensures ∙ ap (λ k. k.ids) c.self.view_is ∙ c.requires.own.ids in
    let stood : Stands c.self.inside.graph old (goal_ids goals0) = subst (λ k. Stands k.graph k.triples (goal_ids goals0)) (sym c.self.view_is) holds.graph in
    let changed : IsChanged old c.as_slice.result.now c.as_slice-2.result.now new =
    changed_by old new c.as_slice.result.now c.as_slice-2.result.now c.in_ok-difference.difference c.look_at_all.new.difference
    c.in_ok-look_at_all.ensures.counts c.in_ok-difference.ensures.gone c.in_ok-difference.ensures.come c.as_slice.ensures c.as_slice-2.ensures
    in
    on_ok_weaker c.change.result
    (λ stands. record {
      members =
          held_after goals0 rows0 inputs0 goals c.args.prefs.now.rows c.args.inputs.now c.args.changed.now c.self.inside.own.triples old new own
          (λ t. ap (λ k. has_triple_among k.triples t) c.self.view_is ∙ holds.members t) covered c.in_ok-look_at_all.ensures.members;
      graph = subst (Stands c.change.new.self new) ids stands;
    })
    (c.change.ensures.ok old new (goal_ids goals0) changed stood)

pub returns-clause-moved : goal.returns-clause-moved
returns-clause-moved c = λ goals0 rows0 inputs0 holds.
    let old = c.self.inside.held in
    let stood : Stands c.self.inside.graph old (goal_ids goals0) = subst (λ k. Stands k.graph k.triples (goal_ids goals0)) (sym c.self.view_is) holds.graph in
    on_ok_weaker c.change.result (λ same s none. same s none ∙ ap (λ k. level_in_kept k s) c.self.view_is) (c.change.ensures.moved old (goal_ids goals0) stood)
