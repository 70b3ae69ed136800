use Rattle.std.proofs.Common.{◌∙◌, Some, None}
use Rattle.chunk_make.proofs.CauseLemmas.{first_next}
use Rattle.chunk_make.proofs.causes.quiescence_use.Goals as goal

pub returns-in-Some : goal.returns-in-Some
returns-in-Some c = first_next c.args.steps.now c.steps.step-index c.step-item.result (Some c.in-Some.number) c.steps-test.true c.step-item.is c.in-Some.ensures ∙ c.steps.invariant

pub steps-preserved : goal.steps-preserved
steps-preserved c = first_next c.args.steps.now c.steps.step-index c.step-item.result None c.steps-test.true c.step-item.is c.in_default.ensures ∙ c.steps.invariant
