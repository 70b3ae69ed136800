-- How many triples lead from one symbol to another.
use Rattle.std.specs.Prelude.{◌≡◌, ℕ, suc, ◌+◌, List, [], ◌∷◌, if◌then◌else◌}
use Rattle.soar_sym.specs.declared.symbol.Sym.{Sym}
use Rattle.soar_sym.specs.declared.symbol.Triple.{Triple}
use Rattle.level_laws.specs.Labels.{leads}

-- how many triples lead from x to y
abbrev pub edge_count : List Triple → Sym → Sym → ℕ
edge_count [] x y = 0
edge_count (t ∷ triples) x y = if leads x y t then suc (edge_count triples x y) else edge_count triples x y

-- With what is gone taken away and what comes added, the triples held before come to those after.
abbrev pub IsChanged : List Triple → List Triple → List Triple → List Triple → Type 0
IsChanged held gone come after = (x y : Sym) → edge_count after x y + edge_count gone x y ≡ edge_count held x y + edge_count come x y
