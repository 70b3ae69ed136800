-- What the levels of a graph are.
use Rattle.std.specs.Prelude.{◌≡◌, ℕ, List, Option, option_map}
use Rattle.soar_sym.specs.declared.symbol.Sym.{Sym}
use Rattle.soar_sym.specs.declared.symbol.Triple.{Triple}
use Rattle.defs_soar.specs.declared.goal.Goal.{Goal}
use Rattle.defs_soar.specs.Goals.{goal_ids}
use Rattle.defs_soar.specs.Levels.{level}
use Rattle.level_laws.specs.Labels.{as_told}
use Rattle.level_change.specs.Counts.{edge_count}
use Rattle.level_change.specs.Graph.{Graph, level_in_graph, Stands}

-- a level as it is answered, 2^32 - 1 at most
abbrev pub as_answered : Option ℕ → Option ℕ
as_answered = option_map as_told

-- The levels of a graph that stands are those that are defined.
abbrev pub LevelsAreTold : Type 0
LevelsAreTold = (graph : Graph) (triples : List Triple) (goals : List Goal) → Stands graph triples (goal_ids goals) → (s : Sym) → level_in_graph graph s ≡ as_answered (level goals triples s)

-- It stands for any triples that lead as often.
abbrev pub StandsByCounts : Type 0
StandsByCounts = (graph : Graph) (a b : List Triple) (goals : List Sym) → Stands graph a goals → ((x y : Sym) → edge_count b x y ≡ edge_count a x y) → Stands graph b goals
