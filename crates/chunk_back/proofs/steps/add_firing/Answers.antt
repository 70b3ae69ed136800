use Rattle.std.proofs.Common.{◌≡◌, ◌∙◌, ◌++◌, ap, filter, flat_map, map, not, List}
use Rattle.defs_soar.specs.Explanation.{as_select_step, is_seen, namings_in_order, selection_of, TagNaming}
use Rattle.defs_soar.specs.History.{step_seen}
use Rattle.chunk_back.specs.Namings.{as_naming}
use Rattle.chunk_back.proofs.StepLemmas.{firing_added}
use Rattle.chunk_back.proofs.steps.add_firing.Goals as goal

pub returns-clause-steps : goal.returns-clause-steps
returns-clause-steps c =
    let selections : map as_naming c.as_slice-2.result.now ≡ namings_in_order (flat_map selection_of c.args.firing.now.used) =
    ap (map as_naming) c.as_slice-2.ensures.value ∙ c.in_ok-selections.ensures ∙ ap (λ used. namings_in_order (flat_map selection_of used)) c.as_slice.ensures in
    firing_added c.args.steps.now c.add_new_selections.new.steps c.push.new.self c.args.seen.now c.args.firing.now c.in_ok-copy_firing.field-0
    (c.in_ok-add_new_selections.ensures ∙ ap (λ (ns : List TagNaming). map step_seen c.args.steps.now ++ map as_select_step (filter (λ n. not (is_seen c.args.seen.now n)) ns)) selections)
    c.in_ok-push.ensures.ok c.in_ok-copy_firing.ensures
