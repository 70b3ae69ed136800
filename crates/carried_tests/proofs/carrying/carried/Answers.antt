use Rattle.std.proofs.Common.{◌∙◌, ◌++◌, ap, ap₂, map, flat_map, filter}
use Rattle.carried_tests.specs.Parts.{tests_of_step}
use Rattle.carried_tests.specs.Seen.{carried_seen}
use Rattle.carried_tests.proofs.PartLemmas.{tests_of_all}
use Rattle.defs_soar.specs.CarriedTests.{carried_tests, is_carried}
use Rattle.defs_soar.specs.History.{chain_seen, step_seen}
use Rattle.carried_tests.proofs.carrying.carried.Goals as goal

pub returns : goal.returns
unfolding carried_tests
returns c =
    c.keep_carried.ensures
    ∙ ap (filter (is_carried (chain_seen c.args.told.now.chain.now) c.args.told.now.depth))
    (c.in_ok-add_steps.ensures
    ∙ ap₂ (λ tests steps. map carried_seen tests ++ flat_map tests_of_step (map step_seen steps)) c.new-tests.ensures.items c.as_slice.ensures
    ∙ tests_of_all (map step_seen c.args.told.now.chain.now.steps))
