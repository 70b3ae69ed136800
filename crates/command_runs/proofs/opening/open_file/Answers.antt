use Rattle.std.proofs.Common.{arith}
use Rattle.std.proofs.lemmas.Grind.{common_steps}
use Rattle.command_runs.proofs.OpeningLemmas.{too_deep, too_many, within}
use Rattle.command_runs.proofs.opening.open_file.Goals as goal

pub returns-then-progress-ge-MOST_FETCHES-clause-step : goal.returns-then-progress-ge-MOST_FETCHES-clause-step
returns-then-progress-ge-MOST_FETCHES-clause-step g c = λ stock told fails comes r at.
    too_many _ _ c.args.progress.now _ _ _ fails _ stock _ _ _ r _ (grind (arith, common_steps)) at (c.refuse_step.ensures.refused fails _ r at)

pub returns-then-depth-eq0-clause-step : goal.returns-then-depth-eq0-clause-step
returns-then-depth-eq0-clause-step g c = λ stock told fails comes r at.
    too_deep _ _ c.args.progress.now _ _ _ fails c.args.depth stock _ _ _ r _ (grind (arith, common_steps)) (grind (arith, common_steps)) at
    (c.refuse_step-then-depth-eq0.ensures.refused fails _ r at)

pub returns-clause-step : goal.returns-clause-step
returns-clause-step g c = λ stock told fails comes r at.
    within _ _ _ _ fails c.args.depth stock _ _ _ r _ (grind (arith, common_steps)) (λ inside. c.fetch_file.ensures.step stock told fails comes r at inside)

pub returns-then-progress-ge-MOST_FETCHES-clause-within : goal.returns-then-progress-ge-MOST_FETCHES-clause-within
returns-then-progress-ge-MOST_FETCHES-clause-within g c = c.refuse_step.ensures.within c.args.depth

pub returns-then-progress-ge-MOST_FETCHES-clause-shelf : goal.returns-then-progress-ge-MOST_FETCHES-clause-shelf
returns-then-progress-ge-MOST_FETCHES-clause-shelf g c = c.refuse_step.ensures.shelf _

pub returns-then-depth-eq0-clause-within : goal.returns-then-depth-eq0-clause-within
returns-then-depth-eq0-clause-within g c = c.refuse_step-then-depth-eq0.ensures.within c.args.depth

pub returns-then-depth-eq0-clause-shelf : goal.returns-then-depth-eq0-clause-shelf
returns-then-depth-eq0-clause-shelf g c = c.refuse_step-then-depth-eq0.ensures.shelf _
