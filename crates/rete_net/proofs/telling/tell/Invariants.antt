use Rattle.std.proofs.Common.{◌≡◌, take}
use Rattle.rete_net.specs.Telling.{keys_told}
use Rattle.rete_net.proofs.telling.tell.Given as goal

abbrev pub invariant-served : goal.invariant-served
invariant-served l = l.out ≡ keys_told l.joins l.ends (take l.n-index l.served)
