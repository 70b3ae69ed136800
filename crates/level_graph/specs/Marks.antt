-- Marks: symbols, each with a level or none yet.
use Rattle.std.specs.Prelude.{ℕ, ◌+◌, ◌^◌, Bool, List, [], ◌∷◌, Option, Some, None, if◌then◌else◌}
use Rattle.std.specs.List.{list_any}
use Rattle.soar_sym.specs.Equality.{symbol_eq}
use Rattle.soar_sym.specs.declared.symbol.Sym.{Sym}

abbrev pub MarkList : Type 0
MarkList = List (Sym × Option ℕ)

-- the level that is marked at a symbol
abbrev pub mark_at : MarkList → Sym → Option ℕ
mark_at [] s = None
mark_at (m ∷ marks) s = if symbol_eq s m.0 then m.1 else mark_at marks s

-- whether there is a place for the symbol's level
abbrev pub has_mark : MarkList → Sym → Bool
has_mark marks s = list_any (λ m. symbol_eq s m.0) marks

-- no level weighs more than any level
abbrev pub weight_of : Option ℕ → ℕ
weight_of None = 2 ^ 32
weight_of (Some level) = level

abbrev pub weight : MarkList → ℕ
weight [] = 0
weight (m ∷ marks) = weight_of m.1 + weight marks
