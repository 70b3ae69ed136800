-- Whether a triple that is kept may have the mark. No public clause cites this.
use Rattle.std.specs.Prelude.{◌≡◌, Bool, false, List}
use Rattle.std.specs.List.{All}
use Rattle.soar_sym.specs.declared.symbol.Triple.{Triple}

-- none of the triples has the mark
abbrev pub ArePlain : List Triple → Type 0
ArePlain triples = All (λ (t : Triple). t.accept ≡ false) triples

-- a triple with the mark is among these only where one was ever added
abbrev pub AreMarksTold : Bool → List Triple → Type 0
AreMarksTold marked triples = marked ≡ false → ArePlain triples
