use Rattle.std.proofs.Common.{sym, ap, subst}
use Rattle.soar_fire.specs.Known.{KnowsWishes}
use Rattle.soar_fire.proofs.ActionLemmas.{wishes_grown, wishes_push}
use Rattle.soar_fire.proofs.action.make.Goals as goal

pub returns-in_ok-push-in-Ok-clause-wishes : goal.returns-in_ok-push-in-Ok-clause-wishes
returns-in_ok-push-in-Ok-clause-wishes c =
    subst (KnowsWishes c.wished.new.table) (sym c.in_ok-push-in-Ok.ensures.ok)
    (wishes_push _ _ _ (wishes_grown _ _ _ c.requires.wishes c.wished.ensures.gains.words_grow) (rw c.in-Ok.is at c.in_ok-wish.ensures.known))

pub returns-in_ok-with_dropped-in-Err-clause-wishes : goal.returns-in_ok-with_dropped-in-Err-clause-wishes
returns-in_ok-with_dropped-in-Err-clause-wishes c =
    subst (KnowsWishes c.wished.new.table) (sym (ap (λ made. made.wishes) c.in_ok-with_dropped-in-Err.ensures))
    (wishes_grown _ _ _ c.requires.wishes c.wished.ensures.gains.words_grow)
