use Rattle.std.proofs.Common.{◌≡◌, ◌++◌, take}
use Rattle.rete_net.specs.Telling.{keys_by}
use Rattle.rete_net.proofs.telling.add_gone.Given as goal

abbrev pub invariant-gone : goal.invariant-gone
invariant-gone l = l.out ≡ l.initial.out ++ keys_by l.rule (take l.tags-index l.gone)
