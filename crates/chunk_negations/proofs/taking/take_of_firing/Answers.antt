use Rattle.std.proofs.Common.{map, ap, ◌∙◌}
use Rattle.std.proofs.lemmas.Result.{on_ok_weaker}
use Rattle.soar_rule.specs.Conditions.{condition, conditions}
use Rattle.defs_soar.specs.History.{chain_seen, firing_seen}
use Rattle.defs_soar.specs.Negations.{bindings_in, negations_in, without_repeats}
use Rattle.soar_rule.specs.declared.production.Production.{Production}
use Rattle.chunk_negations.specs.Superstate.{superstate_of}
use Rattle.chunk_negations.proofs.taking.take_of_firing.Goals as goal

pub returns : goal.returns
returns c = on_ok_weaker c.take_of_conds.result
    (λ met. met
    ∙ ap (λ bs. without_repeats (map condition c.args.taken.now) (superstate_of (chain_seen c.args.told.now.chain.now) c.args.told.now.depth bs (negations_in (conditions c.as_slice-conds.result.now))))
    (c.as_slice.ensures.value ∙ c.in_ok-bindings.ensures)
    ∙ ap (λ cs. without_repeats (map condition c.args.taken.now) (superstate_of (chain_seen c.args.told.now.chain.now) c.args.told.now.depth (bindings_in (firing_seen c.args.firing.now)) (negations_in (conditions cs))))
    (c.as_slice-conds.ensures ∙ ap (λ (p : Production). p.conds) c.deref.ensures))
    c.take_of_conds.ensures
