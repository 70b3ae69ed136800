use Rattle.std.proofs.Common.{rules, ◌∙◌, ap, map}
use Rattle.std.proofs.lemmas.Fn.{filter_same}
use Rattle.carried_tests.specs.declared.carrying.CarriedTest.{CarriedTest}
use Rattle.carried_tests.specs.Seen.{carried_seen}
use Rattle.carried_tests.proofs.PartLemmas.{filter_seen}
use Rattle.defs_soar.specs.CarriedTests.{is_carried}
use Rattle.defs_soar.specs.History.{chain_seen}
use Rattle.carried_tests.proofs.carrying.keep_carried.Goals as goal

pub returns : goal.returns
returns c =
    ap (map carried_seen) (filter_same _ (λ (t : CarriedTest). is_carried (chain_seen c.args.told.now.chain.now) c.args.told.now.depth (carried_seen t)) _ (λ t b f k. search rules) _ _ c.retain.ensures.filtered)
    ∙ filter_seen (is_carried (chain_seen c.args.told.now.chain.now) c.args.told.now.depth) c.args.tests.now.items
