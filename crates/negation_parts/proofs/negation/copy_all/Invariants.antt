use Rattle.std.proofs.Common.{◌≡◌, ◌++◌, take}
use Rattle.negation_parts.proofs.negation.copy_all.Given as goal

abbrev pub invariant-lists : goal.invariant-lists
invariant-lists l = l.out.items ≡ l.initial.out.items ++ take l.list-index l.lists
