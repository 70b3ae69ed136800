-- The levels of what goals reach, as they are kept.
use Rattle.std.specs.Prelude.{◌≡◌, List, option_map}
use Rattle.soar_sym.specs.declared.symbol.Sym.{Sym}
use Rattle.soar_sym.specs.declared.symbol.Triple.{Triple}
use Rattle.defs_soar.specs.declared.goal.Goal.{Goal}
use Rattle.defs_soar.specs.Levels.{level}
use Rattle.soar_levels.specs.Labels.{as_told}
use Rattle.kept_triples.specs.Kept.{KeptOf, level_in_kept}

-- what is told of each symbol is its level over these triples, 2^32 - 1 at most
abbrev pub TellsLevels : KeptOf → List Goal → List Triple → Type 0
TellsLevels k goals triples = (s : Sym) → level_in_kept k s ≡ option_map as_told (level goals triples s)
