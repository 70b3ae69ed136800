use Rattle.std.proofs.Common.{◌≤◌, length, ap, sym, arith, ◌∙◌}
use Rattle.std.proofs.lemmas.List.{length-take}
use Rattle.soar_goals.proofs.KnownLemmas.{own_known}
use Rattle.soar_goals.proofs.goals.Goals.law.Goals as goal

pub returns : goal.returns
returns c = own_known c.args.table.now c.args.self.now first c.requires
  where
    first : 24 ≤ length c.args.table.now
    first = let same = sym (length-take 24 c.args.table.now) ∙ ap length c.law.ensures.first in omega arith
