use Rattle.std.proofs.Common.{◌≡◌, take}
use Rattle.soar_sym.specs.declared.symbol.Sym.{Sym}
use Rattle.defs_soar.specs.Goals.{is_goal}
use Rattle.level_graph.specs.Marks.{has_mark}
use Rattle.output_link.proofs.walking.ids_of.Given as goal

abbrev pub invariant-goals : goal.invariant-goals
invariant-goals l = (s : Sym) → has_mark l.ids s ≡ is_goal (take l.goal-index l.goals) s
