use Rattle.std.proofs.Common.{map, sym, ap, subst}
use Rattle.soar_rule.specs.Productions.{value_seen}
use Rattle.soar_fire.specs.Known.{KnowsWishes}
use Rattle.soar_fire.proofs.ActionLemmas.{wishes_grown, written_constants}
use Rattle.soar_fire.proofs.action.write.Goals as goal

pub evaluated_all-requires-clause-constants : goal.evaluated_all-requires-clause-constants
evaluated_all-requires-clause-constants c = written_constants _ (map value_seen c.args.values.now) c.requires.constants

pub returns-in_ok-push_joined-in-Ok-clause-wishes : goal.returns-in_ok-push_joined-in-Ok-clause-wishes
returns-in_ok-push_joined-in-Ok-clause-wishes c = wishes_grown _ _ _ c.requires.wishes c.evaluated_all.ensures.gains.words_grow

pub returns-in_ok-with_dropped-in-Err-clause-wishes : goal.returns-in_ok-with_dropped-in-Err-clause-wishes
returns-in_ok-with_dropped-in-Err-clause-wishes c =
    subst (KnowsWishes c.evaluated_all.new.table) (sym (ap (λ made. made.wishes) c.in_ok-with_dropped-in-Err.ensures))
    (wishes_grown _ _ _ c.requires.wishes c.evaluated_all.ensures.gains.words_grow)
