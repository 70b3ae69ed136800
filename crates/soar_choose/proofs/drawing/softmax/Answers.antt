use Rattle.std.proofs.Common.{arith, ℤ, to_z, of_z}
use Rattle.std.proofs.lemmas.Int.{ints}
use mir.Syntax.{w128}
use Rattle.soar_choose.proofs.DrawLemmas.{remainder_within}
use Rattle.soar_choose.proofs.drawing.softmax.Goals as goal

pub returns-then-total-gt0-clause-within : goal.returns-then-total-gt0-clause-within
returns-then-total-gt0-clause-within c =
    let total : ℤ = to_z w128 (of_z w128 c.total-total.result) in
    rw c.first_above.ensures (remainder_within c.from.result total c.args.left.now (omega (arith, ints, c.total-total.ensures)) c.if-total-gt0.true)
