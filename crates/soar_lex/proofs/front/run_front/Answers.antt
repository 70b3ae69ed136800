use Rattle.std.proofs.Common.{arith}
use Rattle.soar_lex.proofs.FrontLemmas.{angle_within}
use Rattle.soar_lex.proofs.front.run_front.Goals as goal

pub overflow_cast-result : goal.overflow_cast-result
overflow_cast-result c = omega (arith, angle_within c.args.run.now c.in-Angle.before c.in-Angle.ensures)

pub overflow_add-result : goal.overflow_add-result
overflow_add-result c = omega (arith, angle_within c.args.run.now c.in-Angle.before c.in-Angle.ensures)
