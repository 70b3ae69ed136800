use Rattle.std.proofs.Common.{◌∙◌, ◌++◌, ap, sym, map, List, Some, None}
use Rattle.defs_soar.specs.Explanation.{firing_steps}
use Rattle.defs_soar.specs.History.{firing_seen, FiringOf, step_seen}
use Rattle.chunk_back.proofs.StepLemmas.{both_ok, then_others}
use Rattle.chunk_back.proofs.WalkLemmas.{only_one}
use Rattle.chunk_back.proofs.steps.add_number.Goals as goal

pub returns-in-Some : goal.returns-in-Some
returns-in-Some g c =
    let kept = g.K.Keeps.kept c.args.kept.now in
    let f = firing_seen c.in-Some.firing.now in
    both_ok c.add_firing.result _ _ _ c.add_firing.ensures.steps c.add_firing.ensures.seen (λ steps seen others.
    then_others c.args.steps.now c.add_firing.new.steps c.args.seen.now c.add_firing.new.seen f steps seen others
    ∙ ap (λ (fs : List FiringOf). map step_seen c.args.steps.now ++ firing_steps c.args.seen.now (fs ++ others)) (sym (only_one kept c.requires c.args.number (Some f) c.in-Some.ensures)))

pub returns-in-None : goal.returns-in-None
returns-in-None g c = λ others.
    let kept = g.K.Keeps.kept c.args.kept.now in
    ap (λ (fs : List FiringOf). map step_seen c.args.steps.now ++ firing_steps c.args.seen.now (fs ++ others)) (sym (only_one kept c.requires c.args.number None c.in-None.ensures))
