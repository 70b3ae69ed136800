use Rattle.std.proofs.Common.{◌∙◌, arith}
use Rattle.defs_soar.specs.History.{chain_seen}
use Rattle.chunk_negations.proofs.HigherLemmas.{about_next}
use Rattle.chunk_negations.proofs.higher.+higher.Goals as goal

pub are_about_higher-inside-preserved : goal.are_about_higher-inside-preserved
are_about_higher-inside-preserved t c =
    about_next (chain_seen c.args.told.now.chain.now) c.args.told.now.depth c.args.bindings.now c.inside.within c.as_slice.result.now c.add_values.new.values c.args.inside.now
    c.inside.cond-index c.cond-item.result c.in_ok-is_about_higher.field-0 c.inside-test.true c.cond-item.is
    c.as_slice.ensures c.in_ok-is_about_higher.ensures (grind (arith, c.if-not-branch.false)) c.in_ok-add_values.ensures
    ∙ c.inside.invariant
