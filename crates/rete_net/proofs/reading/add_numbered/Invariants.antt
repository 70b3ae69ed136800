use Rattle.std.proofs.Common.{◌≡◌, ◌++◌, map}
use Rattle.rete_net.specs.Chains.{numbered}
use Rattle.rete_net.proofs.reading.add_numbered.Given as goal

abbrev pub invariant-tokens : goal.invariant-tokens
invariant-tokens l = l.out ≡ l.initial.out ++ map (numbered l.number) l.yielded
