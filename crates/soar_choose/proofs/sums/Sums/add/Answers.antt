use Rattle.std.proofs.Common.{arith}
use Rattle.std.proofs.lemmas.Int.{ints}
use Rattle.soar_choose.proofs.AddedLemmas.{sum_put}
use Rattle.soar_choose.proofs.sums.Sums.add.Goals as goal

pub returns : goal.returns
returns c =
    sum_put c.self.inside.map.entries c.insert.new.self.entries c.args.self.now c.args.value _ c.args.number c.in_ok-insert.ensures.updates.0 c.self.view_is
    (omega (arith, ints, c.at.ensures, c.requires.sum, c.requires.number))
