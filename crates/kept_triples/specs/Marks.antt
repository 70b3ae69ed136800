-- Which marked triples are told without a look. No public clause cites this.
use Rattle.std.specs.Prelude.{◌≡◌, Bool, true, false, ◌&&◌, not, List}
use Rattle.soar_sym.specs.Equality.{symbol_eq}
use Rattle.soar_sym.specs.declared.symbol.Triple.{Triple}
use Rattle.defs_soar.specs.Architecture.{operator_word}
use Rattle.defs_soar.specs.Values.{has_triple_among}

-- it has the mark and is of no operator
abbrev pub is_strange : Triple → Bool
is_strange t = t.accept && not (symbol_eq t.attr operator_word)

-- such a triple is among these only where one was ever added
abbrev pub AreStrangeTold : Bool → List Triple → Type 0
AreStrangeTold strange triples = strange ≡ false → (t : Triple) → is_strange t ≡ true → has_triple_among triples t ≡ false
