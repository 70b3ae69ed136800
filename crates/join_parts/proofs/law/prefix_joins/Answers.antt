use Rattle.soar_rule.specs.Conditions.{positive, no_more, condition_and}
use Rattle.join_parts.proofs.PrefixLemmas.{from_followed}
use Rattle.join_parts.proofs.law.prefix_joins.Goals as goal

pub returns : goal.returns
returns c = λ cs p w base. from_followed cs (condition_and (positive p) no_more) w base
