use Rattle.std.proofs.Common.{◌≡◌, [], drop}
use Rattle.std.specs.List.{list_all}
use Rattle.soar_rule.specs.Conditions.{conditions}
use Rattle.defs_soar.specs.History.{chain_seen}
use Rattle.defs_soar.specs.Negations.{is_about_higher, negations_in}
use Rattle.chunk_negations.proofs.local.are_superstate.Given as goal

abbrev pub invariant-conds : goal.invariant-conds
invariant-conds l =
    list_all (is_about_higher (chain_seen l.told.chain.now) l.told.depth l.bindings []) (negations_in (conditions (drop l.cond-index l.conds)))
    ≡ list_all (is_about_higher (chain_seen l.told.chain.now) l.told.depth l.bindings []) (negations_in (conditions l.conds))
