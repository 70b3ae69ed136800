use Rattle.std.proofs.Common.{◌∙◌, sym}
use Rattle.level_change.proofs.ButLemmas.{but_on, but_past}
use Rattle.level_change.proofs.LinkLemmas.{on_ok}
use Rattle.level_change.proofs.passing.pass_to.Goals as goal

pub returns-in-Some-clause-settles : goal.returns-in-Some-clause-settles
returns-in-Some-clause-settles c =
    on_ok c.pass_on.result (λ passed links left there s. but_on links _ _ _ _ _ c.args.from c.args.to c.in-Some.level left there s (sym c.level_of.ensures ∙ c.in-Some.is) passed) c.pass_on.ensures.passed

pub returns-in-None-clause-settles : goal.returns-in-None-clause-settles
returns-in-None-clause-settles c = λ links left there s. but_past links _ _ _ c.args.from c.args.to left (sym c.level_of.ensures ∙ c.in-None.is) s
