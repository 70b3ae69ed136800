use Rattle.std.proofs.Common.{◌≡◌, drop, map}
use Rattle.soar_rule.specs.Conditions.{condition, conditions}
use Rattle.defs_soar.specs.History.{chain_seen}
use Rattle.defs_soar.specs.Negations.{negations_in, without_repeats}
use Rattle.chunk_negations.specs.Superstate.{superstate_of}
use Rattle.chunk_negations.proofs.taking.take_of_conds.Given as goal

abbrev pub invariant-conds : goal.invariant-conds
invariant-conds l =
    without_repeats (map condition l.taken) (superstate_of (chain_seen l.told.chain.now) l.told.depth l.bindings (negations_in (conditions (drop l.cond-index l.conds))))
    ≡ without_repeats (map condition l.initial.taken) (superstate_of (chain_seen l.told.chain.now) l.told.depth l.bindings (negations_in (conditions l.conds)))
