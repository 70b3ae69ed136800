use Rattle.std.proofs.Common.{◌≡◌, drop}
use Rattle.soar_rule.specs.Conditions.{conditions}
use Rattle.body_marks.specs.Fingerprint.{after_conditions}
use Rattle.body_marks.proofs.conditions.+conditions.Given as goal

abbrev pub invariant-after_conditions-conds : goal.invariant-after_conditions-conds
invariant-after_conditions-conds l = after_conditions (conditions (drop l.cond-index l.conds)) l.last ≡ after_conditions (conditions l.conds) l.mark
