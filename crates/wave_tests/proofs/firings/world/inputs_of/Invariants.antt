use Rattle.std.proofs.Common.{◌≡◌, take}
use Rattle.wave_tests.proofs.firings.world.inputs_of.Given as goal

abbrev pub invariant-triples : goal.invariant-triples
invariant-triples l = l.inputs ≡ take l.triple-index l.triples
