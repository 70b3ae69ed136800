-- Which tags may be lost.
use Rattle.std.specs.Prelude.{◌≡◌, ℕ, true, List}
use Rattle.soar_sym.specs.declared.symbol.Triple.{Triple}
use Rattle.soar_wm.specs.declared.element.Element.{Element}
use Rattle.defs_soar.specs.Trimming.{is_lost}
use Rattle.dependency_tables.specs.Tables.{is_among, is_in_tables}

-- of the tags of the tables, those that are lost are among these
abbrev pub AreDoubted : List (List ℕ) → List Element → List Triple → List ℕ → Type 0
AreDoubted tables elements kept doubted = (tag : ℕ) → is_in_tables tables tag ≡ true → is_lost elements kept tag ≡ true → is_among doubted tag ≡ true
