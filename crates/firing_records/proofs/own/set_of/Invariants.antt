use Rattle.std.proofs.Common.{◌≡◌, ◌||◌, drop}
use Rattle.soar_sym.specs.declared.symbol.Triple.{Triple}
use Rattle.defs_soar.specs.Values.{has_triple_among}
use Rattle.firing_records.proofs.own.set_of.Given as goal

abbrev pub invariant-triples : goal.invariant-triples
invariant-triples l = (t : Triple) → (has_triple_among l.set t || has_triple_among (drop l.triple-index l.triples) t) ≡ has_triple_among l.triples t
