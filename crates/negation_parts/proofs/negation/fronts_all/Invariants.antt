use Rattle.std.proofs.Common.{◌≡◌, ◌++◌, take}
use Rattle.negation_parts.specs.Negations.{fronts}
use Rattle.negation_parts.proofs.negation.fronts_all.Given as goal

abbrev pub invariant-rows : goal.invariant-rows
invariant-rows l = l.out.items ≡ l.initial.out.items ++ fronts l.n (take l.row-index l.rows)
