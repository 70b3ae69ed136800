use Rattle.std.proofs.Common.{◌≡◌, suc, ◌++◌, drop}
use Rattle.soar_rule.specs.Canonical.{numbers_from}
use Rattle.soar_rule.proofs.numbering.Numbering.names.Given as goal

abbrev pub invariant-variables : goal.invariant-variables
invariant-variables l = l.names ++ numbers_from (suc l.variable-index) (drop l.variable-index l.self.order) ≡ numbers_from 1 l.self.order
