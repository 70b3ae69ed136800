-- Triples each of which is known are known.
use Rattle.std.proofs.Common.{refl, inl, inr, List, [], ◌∷◌}
use Rattle.soar_sym.specs.Words.{Texts}
use Rattle.soar_sym.specs.declared.symbol.Triple.{Triple}
use Rattle.defs_soar.specs.Laws.{IsIn}
use Rattle.soar_settle.specs.Known.{AreTriplesKnown}
use Rattle.soar_settle.specs.Tagging.{IsTripleKnown}

pub known_each : (words : Texts) (triples : List Triple) → ((t : Triple) → IsIn t triples → IsTripleKnown words t) → AreTriplesKnown words triples
known_each words [] known = tt
known_each words (t ∷ triples) known = (known t (inl refl), known_each words triples (λ u i. known u (inr i)))
