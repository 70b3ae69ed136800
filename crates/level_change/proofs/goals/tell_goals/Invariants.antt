use Rattle.std.proofs.Common.{◌≡◌, ◌+◌, drop, option_map}
use Rattle.soar_sym.specs.Equality.{symbol_eq}
use Rattle.soar_sym.specs.declared.symbol.Sym.{Sym}
use Rattle.defs_soar.specs.Levels.{or_reached, first_place}
use Rattle.level_laws.specs.Labels.{Labels, as_told, depth_of_goal}
use Rattle.level_change.specs.Links.{level_at}
use Rattle.level_change.specs.Passing.{KeptBut}
use Rattle.level_change.proofs.goals.tell_goals.Given as goal

abbrev pub invariant-goals : goal.invariant-goals
invariant-goals l =
    (l.depth ≡ as_told (l.goal-index + 1))
    × ((s : Sym) → or_reached (level_at l.levels.entries l.told.entries s) (option_map as_told (first_place (symbol_eq s) (l.goal-index + 1) (drop l.goal-index l.goals))) ≡ or_reached (level_at l.levels.entries l.initial.told.entries s) (option_map as_told (depth_of_goal l.goals s)))
    × ((old : Labels) → KeptBut old (level_at l.levels.entries l.initial.told.entries) l.initial.waiting → KeptBut old (level_at l.levels.entries l.told.entries) l.waiting)
    × ((old : Labels) → KeptBut old (level_at l.levels.entries l.initial.told.entries) l.initial.moved → KeptBut old (level_at l.levels.entries l.told.entries) l.moved)
