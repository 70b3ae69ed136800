use Rattle.std.proofs.Common.{◌≡◌, drop}
use Rattle.soar_rule.specs.Conditions.{conditions}
use Rattle.soar_rule.specs.Equality.{conditions_eq, list_eq}
use Rattle.chunk_negations.proofs.EqualityLemmas.{same_seen}
use Rattle.chunk_negations.proofs.equality.+equality.Given as goal

abbrev pub invariant-same_conds-conds : goal.invariant-same_conds-conds
invariant-same_conds-conds l = list_eq same_seen (drop l.at l.conds) (drop l.at l.others) ≡ conditions_eq (conditions l.conds) (conditions l.others)
