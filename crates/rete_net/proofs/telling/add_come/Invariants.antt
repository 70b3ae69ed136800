use Rattle.std.proofs.Common.{◌≡◌, ◌++◌, take}
use Rattle.node_memory.specs.Changes.{tags_of}
use Rattle.rete_net.specs.Telling.{keys_by}
use Rattle.rete_net.proofs.telling.add_come.Given as goal

abbrev pub invariant-rows : goal.invariant-rows
invariant-rows l = l.out ≡ l.initial.out ++ keys_by l.rule (tags_of (take l.row-index l.rows))
