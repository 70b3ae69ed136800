use Rattle.std.proofs.Common.{◌≡◌, drop}
use Rattle.soar_sym.specs.declared.symbol.Sym.TheVariants.{Ident}
use Rattle.defs_soar.specs.Goals.{is_goal}
use Rattle.session_parts.proofs.reserved.is_goal_numbered.Given as goal

abbrev pub invariant-goals : goal.invariant-goals
invariant-goals l = is_goal (drop l.goal-index l.goals) (Ident l.letter l.number) ≡ is_goal l.goals (Ident l.letter l.number)
