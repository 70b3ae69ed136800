use Rattle.std.proofs.Common.{◌≡◌, ◌++◌, take}
use Rattle.rete_beta.specs.Joins.{told_at}
use Rattle.rete_beta.specs.Told.{tags_told}
use Rattle.rete_net.specs.Telling.{keys_for}
use Rattle.rete_net.proofs.telling.add_of_node.Given as goal

abbrev pub invariant-rules : goal.invariant-rules
invariant-rules l = l.out ≡ l.initial.out ++ keys_for (tags_told (told_at l.joins l.n)) (take l.rule-index l.rule-items)
