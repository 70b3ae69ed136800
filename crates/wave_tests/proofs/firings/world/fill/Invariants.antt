use Rattle.std.proofs.Common.{◌≡◌, ◌++◌, map, take}
use Rattle.soar_wm.specs.WorkingMemory.{triple_of}
use Rattle.wave_tests.proofs.firings.world.fill.Given as goal

abbrev pub invariant-triples : goal.invariant-triples
invariant-triples l = map triple_of l.memory.elements ≡ map triple_of l.initial.memory.elements ++ take l.triple-index l.triples
