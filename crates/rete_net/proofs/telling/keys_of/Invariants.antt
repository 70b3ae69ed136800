use Rattle.std.proofs.Common.{◌≡◌, map}
use Rattle.match_changes.specs.Told.{key_of}
use Rattle.rete_net.proofs.telling.keys_of.Given as goal

abbrev pub invariant-instances : goal.invariant-instances
invariant-instances l = l.out ≡ map key_of l.yielded
