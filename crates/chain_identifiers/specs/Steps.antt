-- How firings of a depth use a symbol.
use Rattle.std.specs.Prelude.{ℕ, Bool, ◌&&◌, ◌==◌}
use Rattle.std.specs.List.{list_any}
use Rattle.soar_sym.specs.declared.symbol.Sym.{Sym}
use Rattle.defs_soar.specs.ChainIdentifiers.{is_state_use}
use Rattle.defs_soar.specs.History.{FiringOf}

abbrev pub is_goal_of_firing : ℕ → Sym → FiringOf → Bool
is_goal_of_firing depth s f = (f.depth == depth) && list_any (is_state_use s) f.used
