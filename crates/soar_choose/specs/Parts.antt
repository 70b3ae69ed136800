-- Parts of the choice that the code computes one by one.
use Rattle.std.specs.Prelude.{Bool, false, ◌&&◌, List, [], ◌∷◌, Option, Some, None}
use Rattle.soar_sym.specs.Equality.{symbol_eq}
use Rattle.soar_sym.specs.Words.{Texts, IsKnown}
use Rattle.soar_sym.specs.declared.symbol.Sym.{Sym}
use Rattle.defs_soar.specs.declared.preference.PrefKind.{PrefKind}
use Rattle.defs_soar.specs.declared.preference.Preference.{Preference}
use Rattle.defs_soar.specs.Values.{is_kind}

-- the symbols are of the table
abbrev pub AreSymbolsKnown : Texts → List Sym → Type 0
AreSymbolsKnown words [] = Unit {0}
AreSymbolsKnown words (s ∷ symbols) = IsKnown words s × AreSymbolsKnown words symbols

-- the row is of the kind and of the value
abbrev pub is_of : PrefKind → Sym → Preference → Bool
is_of k value row = is_kind row.wish.kind k && symbol_eq row.wish.value value

abbrev pub is_referent : Option Sym → Sym → Bool
is_referent None s = false
is_referent (Some r) s = symbol_eq r s

-- the row says this of one value and another
abbrev pub says : PrefKind → Sym → Sym → Preference → Bool
says k a b row = is_kind row.wish.kind k && (symbol_eq row.wish.value a && is_referent row.wish.referent b)
