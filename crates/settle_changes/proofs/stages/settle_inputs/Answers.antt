use Rattle.std.proofs.Common.{◌≡◌, not, List, ◌++◌, filter, sym, ◌∙◌, ap, subst}
use Rattle.soar_sym.specs.declared.symbol.Sym.{Sym}
use Rattle.soar_sym.specs.declared.symbol.Triple.{Triple}
use Rattle.defs_soar.specs.Held.{held}
use Rattle.defs_soar.specs.Levels.{is_level_one}
use Rattle.kept_triples.specs.Kept.{HoldsTriples, IsCovered, level_in_kept}
use Rattle.settle_changes.specs.Leaving.{inputs_gone, inputs_without}
use Rattle.settle_changes.specs.Stages.{AreReachedBut}
use Rattle.settle_changes.proofs.StageLemmas.{reached_stay}
use Rattle.settle_changes.proofs.StepLemmas.{inputs_covered, stay_but, tops_left}
use Rattle.settle_changes.proofs.stages.settle_inputs.Goals as goal

pub returns-clause-inputs : goal.returns-clause-inputs
returns-clause-inputs c =
    let goals = c.args.goals.now in
    let rows = c.args.prefs.now.rows in
    let inputs = c.args.inputs.now in
    let k0 = c.args.kept.now in
    let below : c.as_slice-2.result.now ≡ filter (λ id. not (is_level_one (level_in_kept k0 id))) c.args.ids.now =
    c.as_slice-2.ensures ∙ c.in_ok-below.ensures ∙ ap (filter (λ id. not (is_level_one (level_in_kept k0 id)))) c.as_slice.ensures in
    c.in_ok-gone.ensures.inputs ∙ ap (inputs_without inputs) below
    ∙ tops_left c.kept_levels_are_levels.ensures goals rows inputs c.args.ids.now k0 c.requires.state.state.holds c.requires.state.tops

pub returns-clause-state : goal.returns-clause-state
returns-clause-state c =
    let goals = c.args.goals.now in
    let rows = c.args.prefs.now.rows in
    let inputs = c.args.inputs.now in
    let left = c.drop_inputs.new.inputs in
    let ids = c.as_slice-2.result.now in
    let k0 = c.args.kept.now in
    let k = c.reconsider.new.self in
    let state = c.requires.state.state in
    let covers : IsCovered goals rows inputs goals rows left c.as_slice-3.result.now =
    subst (λ (l : List Triple). IsCovered goals rows inputs goals rows left l) (sym (c.as_slice-3.ensures ∙ c.in_ok-gone.ensures.gone))
    (
    subst (λ (l : List Triple). IsCovered goals rows inputs goals rows l (inputs_gone inputs ids)) (sym c.in_ok-gone.ensures.inputs)
    (inputs_covered goals rows inputs ids)
    ) in
    let holds : HoldsTriples goals rows left k = c.in_ok-reconsider.ensures.holds goals rows inputs state.holds covers in
    let all : c.extend_from_slice.new.self ≡ c.args.ids.now ++ k.graph.moved =
    c.in_ok-extend_from_slice.ensures.ok ∙ ap (λ (l : List Sym). c.args.ids.now ++ l) c.moved.ensures in
    record {
      holds = holds;
      own = c.in_ok-reconsider.ensures.own;
      reached =
          subst (λ (l : List Sym). AreReachedBut l goals (held rows goals left) rows) (sym all)
          (
          reached_stay goals (held rows goals inputs) (held rows goals left) rows c.args.ids.now k.graph.moved
          (
          stay_but c.kept_levels_are_levels.ensures k.graph.moved goals goals rows rows inputs left k0 k state.holds holds
          (c.in_ok-reconsider.ensures.moved goals rows inputs state.holds)
          )
          state.reached
          );
    }
