use Rattle.std.proofs.Common.{◌≡◌, ◌-◌, ◌^◌}
use Rattle.soar_sym.specs.declared.symbol.Sym.{Sym}
use Rattle.defs_soar.specs.Sorted.{has_symbol}
use Rattle.level_graph.specs.Marks.{has_mark}
use Rattle.output_link.specs.Walking.{Walked}
use Rattle.output_link.proofs.walking.shown_by_tag.Given as goal

abbrev pub invariant-reached : goal.invariant-reached
invariant-reached l = ((s : Sym) → has_mark l.met s ≡ has_symbol l.reached s) × Walked (has_mark l.goals) l.memory.elements l.reached l.at l.kept.entries

abbrev pub decreases-reached : goal.decreases-reached
decreases-reached l = 2 ^ 64 - l.at
