-- Levels once goals have their depths again.
use Rattle.std.specs.Prelude.{◌≡◌, List, option_map}
use Rattle.soar_sym.specs.declared.symbol.Sym.{Sym}
use Rattle.defs_soar.specs.Levels.{or_reached}
use Rattle.level_laws.specs.Labels.{Links, Labels, as_told, depth_of_goal}
use Rattle.level_change.specs.Passing.{SpreadsBut, KeptBut}

-- goals that had no level have their depth
abbrev pub WithDepths : Labels → List Sym → Labels → Type 0
WithDepths now goals kept = (s : Sym) → kept s ≡ or_reached (now s) (option_map as_told (depth_of_goal goals s))

-- With the depths of goals, and what changed by that waiting, levels spread but for some links.
abbrev pub CanSpread : Links → List Sym → Labels → Links → Type 0
CanSpread links goals now left = (kept : Labels) (waiting : List Sym) → WithDepths now goals kept → KeptBut now kept waiting → SpreadsBut links goals kept waiting left
