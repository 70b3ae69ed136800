use Rattle.std.proofs.Common.{◌∙◌, ap, pos, rules, SFits, w64, to_z-of_z}
use Rattle.std.specs.Option.{unwrap_or}
use Rattle.soar_choose.specs.Told.{sum_at}
use Rattle.soar_choose.proofs.AddedLemmas.{sum_found}
use Rattle.soar_choose.proofs.sums.Sums.at.Goals as goal

pub returns-in-Some : goal.returns-in-Some
returns-in-Some c =
    let fits : SFits w64 c.in-Some.sum.now = search rules in
    to_z-of_z fits ∙ ap (λ o. unwrap_or o (pos 0)) c.in-Some.ensures.value ∙ sum_found _ c.args.value ∙ ap (λ l. sum_at l c.args.value) c.self.view_is

pub returns-in-None : goal.returns-in-None
returns-in-None c = ap (λ o. unwrap_or o (pos 0)) c.in-None.ensures.value ∙ sum_found _ c.args.value ∙ ap (λ l. sum_at l c.args.value) c.self.view_is
