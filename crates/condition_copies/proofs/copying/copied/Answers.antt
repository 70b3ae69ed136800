use Rattle.std.proofs.Common.{◌≡◌, ◌∙◌}
use Rattle.std.proofs.lemmas.Result.{IfOk-weaker}
use Rattle.soar_rule.specs.Conditions.{condition}
use Rattle.soar_rule.specs.Renaming.{condition_with}
use Rattle.condition_copies.proofs.CopyLemmas.{same_condition}
use Rattle.condition_copies.proofs.copying.copied.Goals as goal

pub returns : goal.returns
returns c =
    IfOk-weaker c.cond_with.result (λ copy. condition copy ≡ condition_with (λ a. a) (condition c.args.cond.now)) (λ copy. condition copy ≡ condition c.args.cond.now)
    (λ copy same. same ∙ same_condition (condition c.args.cond.now)) c.cond_with.ensures
