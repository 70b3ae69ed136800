use Rattle.std.proofs.Common.{◌≡◌, ◌++◌}
use Rattle.rule_shelf.proofs.index.Index.justifications.Given as goal

abbrev pub invariant-numbers : goal.invariant-numbers
invariant-numbers l = l.numbers ++ l.number-iterator ≡ l.fn.self.justified.keys
