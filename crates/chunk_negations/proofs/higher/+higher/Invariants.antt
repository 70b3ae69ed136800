use Rattle.std.proofs.Common.{◌≡◌, drop}
use Rattle.soar_rule.specs.Conditions.{conditions}
use Rattle.defs_soar.specs.History.{chain_seen}
use Rattle.defs_soar.specs.Negations.{are_about_higher}
use Rattle.chunk_negations.proofs.higher.+higher.Given as goal

abbrev pub invariant-are_about_higher-inside : goal.invariant-are_about_higher-inside
invariant-are_about_higher-inside l =
    are_about_higher (chain_seen l.told.chain.now) l.told.depth l.bindings l.within (conditions (drop l.cond-index l.inside))
    ≡ are_about_higher (chain_seen l.told.chain.now) l.told.depth l.bindings l.values (conditions l.inside)
