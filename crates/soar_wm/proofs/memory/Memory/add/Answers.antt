use Rattle.std.proofs.Common.{◌<◌, length, arith, sym}
use Rattle.soar_wm.proofs.LawLemmas.{lawful_add}
use Rattle.soar_wm.proofs.memory.Memory.add.Goals as goal

pub invariant_of-self : goal.invariant_of-self
invariant_of-self c =
    let room : length c.self.inside.shelf < c.self.inside.limit = omega arith in
    lawful_add c.self.inside.shelf _ _ _ c.args.triple c.args.of_state c.self.invariant (sym c.in_default.ensures) room c.in-Ok.ensures.ok

pub returns-in-Ok-clause-lawful : goal.returns-in-Ok-clause-lawful
returns-in-Ok-clause-lawful c =
    let room : length c.self.inside.shelf < c.self.inside.limit = omega arith in
    lawful_add c.self.inside.shelf _ _ _ c.args.triple c.args.of_state c.self.invariant (sym c.in_default.ensures) room c.in-Ok.ensures.ok
