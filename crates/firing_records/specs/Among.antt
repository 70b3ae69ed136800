-- The goals among symbols, found first and then put in order. No public clause cites this.
use Rattle.std.specs.Prelude.{List, [], ◌∷◌, filter}
use Rattle.soar_sym.specs.Words.{Texts}
use Rattle.soar_sym.specs.declared.symbol.Sym.{Sym}
use Rattle.defs_soar.specs.declared.goal.Goal.{Goal}
use Rattle.defs_soar.specs.Goals.{is_goal}
use Rattle.defs_soar.specs.Sorted.{with_symbol}

-- those of the symbols that are goals
abbrev pub goals_in : List Goal → List Sym → List Sym
goals_in goals symbols = filter (is_goal goals) symbols

-- symbols in their order, each once
abbrev pub in_order : Texts → List Sym → List Sym
in_order words [] = []
in_order words (s ∷ symbols) = with_symbol words (in_order words symbols) s
