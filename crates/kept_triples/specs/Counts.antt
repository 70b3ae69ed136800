-- How many triples of a list pass a test.
use Rattle.std.specs.Prelude.{ℕ, Bool, List, filter, length}
use Rattle.soar_sym.specs.declared.symbol.Triple.{Triple}

abbrev pub how_many : (Triple → Bool) → List Triple → ℕ
how_many p triples = length (filter p triples)
