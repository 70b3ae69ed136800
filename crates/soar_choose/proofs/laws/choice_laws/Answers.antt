use Rattle.soar_choose.proofs.AcceptLemmas.{left_is_acceptable}
use Rattle.soar_choose.proofs.LawLemmas.{none_left_is_beaten}
use Rattle.soar_choose.proofs.OwnNameLemmas.{own_names_count_for_nothing}
use Rattle.soar_choose.proofs.ShuffleLemmas.{order_counts_for_nothing}
use Rattle.soar_choose.proofs.laws.choice_laws.Goals as goal

pub returns-clause-acceptable : goal.returns-clause-acceptable
returns-clause-acceptable c = left_is_acceptable

pub returns-clause-unbeaten : goal.returns-clause-unbeaten
returns-clause-unbeaten c = none_left_is_beaten

pub returns-clause-own_names : goal.returns-clause-own_names
returns-clause-own_names c = own_names_count_for_nothing

pub returns-clause-order : goal.returns-clause-order
returns-clause-order c = order_counts_for_nothing
