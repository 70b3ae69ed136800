-- That the levels are those of what operands are looked up in.
use Rattle.std.specs.Prelude.{◌≡◌, map, option_map}
use Rattle.soar_sym.specs.declared.symbol.Sym.{Sym}
use Rattle.soar_wm.specs.WorkingMemory.{triple_of}
use Rattle.defs_soar.specs.Levels.{level}
use Rattle.level_laws.specs.Labels.{as_told}
use Rattle.kept_triples.specs.Kept.{level_in_kept}
use Rattle.session_parts.specs.declared.lookup.Lookup.{Lookup}

-- what is told of each symbol is its level under the goals and over working memory, 2^32 - 1 at most
abbrev pub AreLevelsTold : Lookup → Type 0
AreLevelsTold l = (s : Sym) → level_in_kept l.levels.now s ≡ option_map as_told (level l.goals.now (map triple_of l.memory.now.elements) s)
