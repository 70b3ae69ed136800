-- Which goal is broken, by the tags on which each depends.
use Rattle.std.specs.Prelude.{ℕ, List, Option}
use Rattle.soar_sym.specs.declared.symbol.Triple.{Triple}
use Rattle.soar_wm.specs.declared.element.Element.{Element}
use Rattle.defs_soar.specs.Trimming.{is_lost}
use Rattle.dependency_tables.specs.Tables.{first_with}

-- the least depth, from this one on, of a goal that lost something it depends on
abbrev pub highest_broken_by : List (List ℕ) → List Element → List Triple → ℕ → Option ℕ
highest_broken_by depends elements kept depth = first_with (is_lost elements kept) depth depends
