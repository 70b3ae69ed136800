-- Levels before a wave, as they are told, and rows whose words are in the table.
use Rattle.std.specs.Prelude.{◌≡◌, ℕ, List, [], ◌∷◌, Option}
use Rattle.soar_rule.specs.Symbols.{AreKnown}
use Rattle.soar_sym.specs.Words.{Texts}
use Rattle.soar_sym.specs.declared.symbol.Sym.{Sym}
use Rattle.defs_soar.specs.declared.preference.Preference.{Preference}
use Rattle.defs_soar.specs.declared.preference.Wish.{Wish}
use Rattle.defs_soar.specs.Dependencies.{symbols_of_wish}
use Rattle.defs_soar.specs.History.{Reach}
use Rattle.defs_soar.specs.Levels.{level_in}

-- what is told of each symbol is its level
abbrev pub TellsReach : (Sym → Option ℕ) → Reach → Type 0
TellsReach told before = (s : Sym) → told s ≡ level_in before.goals before.reached s

abbrev pub AreWishesKnown : Texts → List Wish → Type 0
AreWishesKnown words [] = Unit {0}
AreWishesKnown words (w ∷ wishes) = AreKnown words (symbols_of_wish w) × AreWishesKnown words wishes

abbrev pub AreRowsKnown : Texts → List Preference → Type 0
AreRowsKnown words [] = Unit {0}
AreRowsKnown words (row ∷ rows) = AreKnown words (symbols_of_wish row.wish) × AreRowsKnown words rows
