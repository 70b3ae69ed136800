use Rattle.std.proofs.Common.{◌≡◌, drop}
use Rattle.soar_sym.specs.Equality.{symbol_eq}
use Rattle.defs_soar.specs.Levels.{first_place}
use Rattle.level_change.specs.Seeds.{place_of}
use Rattle.level_change.proofs.seeds.place_of.Given as goal

abbrev pub invariant-goals : goal.invariant-goals
invariant-goals l = first_place (symbol_eq l.id) l.at (drop l.at l.goals) ≡ place_of l.goals l.id
